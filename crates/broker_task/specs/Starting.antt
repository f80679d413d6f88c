-- The task at first: each domain's end, how many of its calls are awaited, and nothing heard or sent.
-- Source: this project's own.
use Rattle.std.specs.Prelude.{◌≡◌, ℕ, ◌+◌, false, List, [], ◌∷◌}
use Rattle.end_view.specs.EndView.{IsUnused}
use Rattle.vchan_rule.specs.Seated.{SeatedEnd, view}
use Rattle.control_port.specs.Port.{HasSaid}
use Rattle.broker_task.specs.declared.daemon.Daemon.{Daemon}
use Rattle.broker_task.specs.declared.switchboard.Switchboard.{Switchboard}
use Rattle.broker_task.specs.Given.{BrokerState, state_of}
use Rattle.broker_task.specs.Lines.{end_of, is_gone, first_view, IsLine, HasRead}

pub record IsStarted (d awaited : ℕ) (control : SeatedEnd) (x : Daemon) : Type 0 where
  pub line : IsLine d x
  pub up : is_gone x ≡ false
  pub read : HasRead x []
  pub said : HasSaid x.port []
  pub outbox : x.outbox.letters.items ≡ []
  pub awaited_is : x.awaited ≡ awaited
  pub answered : x.answered ≡ 0
  pub given : first_view (end_of x) ≡ view control
  pub unused : IsUnused (end_of x)

-- the domains from this number on
abbrev pub AreStarted : ℕ → List ℕ → List SeatedEnd → List Daemon → Type 0
AreStarted d [] [] [] = Unit {0}
AreStarted d (a ∷ awaited) (e ∷ controls) (x ∷ ds) = IsStarted d a e x × AreStarted (d + 1) awaited controls ds
AreStarted d awaited controls ds = ⊥

-- what contracts see of a task of domains that have just started, which has decided nothing
pub record IsNewTask (state : BrokerState) : Type 0 where
  pub switchboard : Switchboard
  pub seen : state ≡ state_of switchboard
  pub undecided : switchboard.broker.journal ≡ []
  pub awaited : List ℕ
  pub controls : List SeatedEnd
  pub started : AreStarted 1 awaited controls switchboard.daemons.items
