pub mod Triple
pub mod ServiceResult
pub mod Owing
