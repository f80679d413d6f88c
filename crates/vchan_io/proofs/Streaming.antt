-- Several takings, or several appendings, one after another.
use Rattle.std.proofs.Common.{◌≡◌, ℕ, List, [], ◌++◌, Option, None, Some, refl, sym, append_assoc, append-nil, IfSome, take, drop, ◌+◌}
use Rattle.std.proofs.Math.Seq.{take-add}
use Rattle.std.specs.Io.KnownBytes.{IsAtEnd}
use Rattle.vchan_io.specs.Streams.{Takes, Appends}

-- taking nothing leaves what was left
pub Takes_none : (left : Option (List ℕ)) → Takes left left []
Takes_none None = refl
Takes_none (Some bytes) = refl

-- what two takings take, they take together
pub Takes_both : (old middle new : Option (List ℕ)) (first second : List ℕ) → Takes old middle first → Takes middle new second → Takes old new (first ++ second)
Takes_both old middle None first second takes more = cc
Takes_both old middle (Some bytes) first second takes more = rw (takes, more, append_assoc)

-- a taking that leaves nothing takes all
pub Takes_all : (old new : Option (List ℕ)) (taken : List ℕ) → Takes old new taken → IsAtEnd new → IfSome old (λ all. taken ≡ all)
Takes_all old None taken takes at_end = rw takes tt
Takes_all old (Some bytes) taken takes at_end = rw (takes, at_end) (sym (append-nil taken))

-- a read into a buffer, after its filled part, which stays as it is, takes what is filled afterwards
pub Takes_filled : (old middle new : Option (List ℕ)) (before after : List ℕ) (filled count : ℕ) → take filled after ≡ take filled before → Takes old middle (take filled before) → Takes middle new (take count (drop filled after)) → Takes old new (take (filled + count) after)
Takes_filled old middle new before after filled count kept takes more =
    rw (take-add filled count after, kept) (Takes_both old middle new _ _ takes more)

-- what two appendings append, they append together
pub Appends_both : (old middle new : Option (List ℕ)) (first second : List ℕ) → Appends old middle first → Appends middle new second → Appends old new (first ++ second)
Appends_both None middle new first second appends more = cc
Appends_both (Some bytes) middle new first second appends more = rw (more, appends, append_assoc)

-- if the front of a list was appended and then the next bytes of it are, a longer front was appended
pub Appends_front : (old middle new : Option (List ℕ)) (bytes : List ℕ) (written count : ℕ) → Appends old middle (take written bytes) → Appends middle new (take count (drop written bytes)) → Appends old new (take (written + count) bytes)
Appends_front old middle new bytes written count appends more =
    rw take-add (Appends_both old middle new _ _ appends more)
