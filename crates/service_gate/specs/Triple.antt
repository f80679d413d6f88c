-- What a service gives, and what it still owes.
use Rattle.std.specs.Prelude.{◌≡◌, ℕ, ℤ, pos, List, [], ◌++◌}

-- the two outputs and the exit code of a service
pub record Triple : Type 0 where
  pub stdout : List ℕ
  pub stderr : List ℕ
  pub code : ℤ

-- these bytes on stdout, and success
abbrev pub writes : List ℕ → Triple
writes bytes = record { stdout = bytes; stderr = []; code = pos 0 }

-- the outputs o and e, and then the triple t
abbrev pub after_outputs : List ℕ → List ℕ → Triple → Triple
after_outputs o e t = record { stdout = o ++ t.stdout; stderr = e ++ t.stderr; code = t.code }

-- A feed of the piece, which took out to out' and err to err', moved a part of what was owed to the two outputs:
-- whatever input may still come, what was owed is what was appended and then what is owed now.
pub record Feeds (before now : List ℕ → Triple) (piece out out' err err' : List ℕ) : Type 0 where
  pub stdout : List ℕ
  pub stderr : List ℕ
  pub out_grows : out' ≡ out ++ stdout
  pub err_grows : err' ≡ err ++ stderr
  pub owed : (more : List ℕ) → before (piece ++ more) ≡ after_outputs stdout stderr (now more)

-- the end of the input appended all that was owed if no more input comes, and gave its code
pub record Ends (owed : Triple) (code : ℤ) (out out' err err' : List ℕ) : Type 0 where
  pub out_ends : out' ≡ out ++ owed.stdout
  pub err_ends : err' ≡ err ++ owed.stderr
  pub code_is : code ≡ owed.code

-- nothing was appended, and as much is owed as before
pub record IsKept (before now : List ℕ → Triple) (out out' err err' : List ℕ) : Type 0 where
  pub out_same : out' ≡ out
  pub err_same : err' ≡ err
  pub owed_same : (more : List ℕ) → now more ≡ before more
