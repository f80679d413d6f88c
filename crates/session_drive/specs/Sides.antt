-- The two sides of a call on one page: what stands between their turns, and what a turn does.
-- Source: this project's own.
use Rattle.std.specs.Prelude.{◌≡◌, ◌⊎◌, ℕ, ◌+◌, ◌≤◌, List, length, None}
use Rattle.ring_words.specs.declared.page.Role.TheVariants.{Server, Client}
use Rattle.vchan_protocol.specs.History.Core.{Core}
use Rattle.vchan_protocol.specs.Lists.ListCall.{free, lists_of}
use Rattle.service_gate.specs.Triple.{Triple}
use Rattle.service_gate.specs.Owing.{builtin_owes}
use Rattle.qrexec_data.specs.CallerSide as caller
use Rattle.qrexec_data.specs.CallerSide.{CallerStandsFor}
use Rattle.qrexec_data.specs.ServingSide as serving
use Rattle.qrexec_data.specs.ServingSide.{ServingStandsFor}
use Rattle.qrexec_data.specs.Reading.{IsByBytes}
use Rattle.qrexec_data.specs.Laws.{IsVersion}
use Rattle.session_drive.specs.declared.sides.Sides.{Sides}
use Rattle.session_drive.specs.Page.{IsRested}

-- the caller has this input, the service owes this at first, and what each side sent and got is what its end of the page did
pub record Stands (input : List ℕ) (owed : List ℕ → Triple) (core : Core) (s : Sides) : Type 0 where
  pub rested : IsRested core s.page
  pub calls : CallerStandsFor s.caller core.server.sent
  pub serves : ServingStandsFor builtin_owes owed s.serving core.client.sent
  pub caller_got : s.caller.inbox.got ≡ core.server.got
  pub serving_got : s.serving.inbox.got ≡ core.client.got
  pub asks : s.caller.requests.input ≡ input
  pub caller_speaks : IsVersion s.caller.replies.own
  pub serving_speaks : IsVersion s.serving.answering.own
  pub caller_read : IsByBytes s.caller.replies.outcome
  pub serving_read : IsByBytes s.serving.answering.outcome

-- how many bytes went and came on both ends
abbrev pub done : Core → ℕ
done core = length core.server.sent + length core.server.got + (length core.client.sent + length core.client.got)

-- a part of a turn leaves what the ends did before
pub record Grows (before after : Core) : Type 0 where
  pub more : done before ≤ done after
  pub same : done after ≡ done before → lists_of after ≡ lists_of before

-- the caller read what waited, or nothing did and it is as it was
pub record CallerReads (input : List ℕ) (owed : List ℕ → Triple) (before : Core) (s s' : Sides) : Type 0 where
  pub after : Core
  pub stands : Stands input owed after s'
  pub other : s'.serving ≡ s.serving
  pub grows : Grows before after
  pub nothing : done after ≡ done before → (before.server.got ≡ before.client.sent) × (s'.caller ≡ s.caller)

-- the caller sent what it had and the ring had room for, or nothing
pub record CallerSends (input : List ℕ) (owed : List ℕ → Triple) (before : Core) (s s' : Sides) : Type 0 where
  pub after : Core
  pub stands : Stands input owed after s'
  pub other : s'.serving ≡ s.serving
  pub same : s'.caller.replies ≡ s.caller.replies
  pub grows : Grows before after
  pub nothing : done after ≡ done before → caller.IsStill s.caller ⊎ (free (lists_of before) Server ≡ 0)

-- the same of the side that serves, which reads only while its call goes on
pub record ServingReads (input : List ℕ) (owed : List ℕ → Triple) (before : Core) (s s' : Sides) : Type 0 where
  pub after : Core
  pub stands : Stands input owed after s'
  pub other : s'.caller ≡ s.caller
  pub grows : Grows before after
  pub nothing : s.serving.answering.outcome ≡ None → done after ≡ done before → (before.client.got ≡ before.server.sent) × (s'.serving ≡ s.serving)

pub record ServingSends (input : List ℕ) (owed : List ℕ → Triple) (before : Core) (s s' : Sides) : Type 0 where
  pub after : Core
  pub stands : Stands input owed after s'
  pub other : s'.caller ≡ s.caller
  pub grows : Grows before after
  pub nothing : done after ≡ done before → serving.IsStill s.serving.answering ⊎ (free (lists_of before) Client ≡ 0)

-- a caller's turn: it leaves the other side alone, and if it moved nothing, nothing waited for it, and it had nothing to send or no room
pub record CallerTurns (input : List ℕ) (owed : List ℕ → Triple) (before : Core) (s s' : Sides) : Type 0 where
  pub after : Core
  pub stands : Stands input owed after s'
  pub other : s'.serving ≡ s.serving
  pub grows : Grows before after
  pub read_all : done after ≡ done before → before.server.got ≡ before.client.sent
  pub still : done after ≡ done before → caller.IsStill s.caller ⊎ (free (lists_of before) Server ≡ 0)

-- the same of the side that serves, unless its call is over
pub record ServingTurns (input : List ℕ) (owed : List ℕ → Triple) (before : Core) (s s' : Sides) : Type 0 where
  pub after : Core
  pub stands : Stands input owed after s'
  pub other : s'.caller ≡ s.caller
  pub grows : Grows before after
  pub read_all : s.serving.answering.outcome ≡ None → done after ≡ done before → before.client.got ≡ before.server.sent
  pub still : s.serving.answering.outcome ≡ None → done after ≡ done before → serving.IsStill s.serving.answering ⊎ (free (lists_of before) Client ≡ 0)
