-- What the two sides of a call have alike.
use Rattle.std.specs.Prelude.{◌≡◌, ℕ, Bool, List, [], Option, Some, is_none, if◌then◌else◌}
use Rattle.std.specs.Option.{option_or}
use Rattle.qrexec_data.specs.declared.outcome.Outcome.{Outcome}

-- a side with these states, as its owner sees it
pub record HalfOf (S : Type 0) : Type 1 where
  -- its version, the greatest number of bytes of one message, and the input that it sends
  pub own : S → ℕ
  pub chunk : S → ℕ
  pub input : S → List ℕ
  -- all bytes got, those that wait to go, and how the call came out
  pub got : S → List ℕ
  pub waiting : S → List ℕ
  pub outcome : S → Option Outcome
  -- whether it is closed at once if the connect of its end is refused
  pub connects : Bool
  -- as `front` leaves it, after so many bytes have gone, and after its channel ended so
  pub lent : S → S
  pub after_gone : ℕ → S → S
  pub ended : Outcome → S → S
  -- what its service owed at first, if it has one; with that it stands for these bytes sent; and nothing can go out
  pub Owed : Type 0
  pub StandsFor : Owed → S → List ℕ → Type 0
  pub IsStill : S → Type 0

-- it is the same side of the same call
pub record IsSameHalf {S : Type 0} (h : HalfOf S) (old new : S) : Type 0 where
  pub own : h.own new ≡ h.own old
  pub chunk : h.chunk new ≡ h.chunk old
  pub input : h.input new ≡ h.input old

-- it has got no more
pub record Keeps {S : Type 0} (h : HalfOf S) (old new : S) : Type 0 where
  pub same : IsSameHalf h old new
  pub got : h.got new ≡ h.got old

-- what `front` returns, and what it leaves: the next message is packed if there is no outcome
pub record Lends {S : Type 0} (h : HalfOf S) (old new : S) (piece : List ℕ) : Type 0 where
  pub piece_is : piece ≡ (if is_none (h.outcome old) then h.waiting new else [])
  pub new_is : new ≡ h.lent old
  pub keeps : Keeps h old new
  pub outcome : h.outcome new ≡ h.outcome old
  pub stands : (owed : h.Owed) (sent : List ℕ) → h.StandsFor owed old sent → h.StandsFor owed new sent

-- its channel ended so
pub record Ends {S : Type 0} (h : HalfOf S) (o : Outcome) (old new : S) : Type 0 where
  pub keeps : Keeps h old new
  pub outcome : h.outcome new ≡ option_or (h.outcome old) (Some o)
  pub stands : (owed : h.Owed) (sent : List ℕ) → h.StandsFor owed old sent → h.StandsFor owed new sent
