-- Byte strings that are held as they are written.
use Rattle.std.proofs.Common.{◌≡◌, ℕ, List, [], ◌++◌, Bool, true, false, refl, Option, Some, None, Ok, Err}
use Rattle.std.specs.Prelude.{is_some, unwrap_or, nat_lt, length, if◌then◌else◌}
use Rattle.script_words.specs.ByteStrings.{at_most, Gains, TooManyBytes}

-- a word that spells bytes, and one that spells none
pub some_of : (o : Option (List ℕ)) → is_some o ≡ true → o ≡ Some (unwrap_or o [])
some_of None h = cc
some_of (Some bytes) h = refl

pub none_of : (o : Option (List ℕ)) → is_some o ≡ false → o ≡ None
none_of None h = refl
none_of (Some bytes) h = cc

-- all bytes of a word are appended, however many
pub gains : (most : ℕ) (o : Option (List ℕ)) (old new : List ℕ) → Gains (at_most most o) old new → new ≡ old ++ unwrap_or o []
gains most None old new h = absurd h
gains most (Some bytes) old new h = by_test (nat_lt most (length bytes)) h
  where
    by_test : (b : Bool) → Gains (if b then Err TooManyBytes else Ok bytes) old new → new ≡ old ++ bytes
    by_test true h' = absurd h'
    by_test false h' = h'
