use Rattle.std.proofs.Common.{◌≡◌, ◌≤◌, ◌∙◌, ℕ, Bool, true, false, not, List, length, refl, sym, ap, subst, arith}
use Rattle.std.specs.Prelude.{Result, Ok, is_some}
use Rattle.vchan_io.specs.declared.faults.Memory.{Memory}
use Rattle.vchan_rule.specs.Seated.{view}
use Rattle.end_view.specs.EndView.{EndView}
use Rattle.control_port.specs.Port.{PortState}
use Rattle.broker_task.specs.Lines.{first_view}
use Rattle.broker_task.proofs.LineLaws.{line_open, line_drained, same_drained, same_then, drained_over, drained_going, found_gone, asked_going}
use Rattle.broker_task.proofs.HearingSteps.{reads_heard}
use Rattle.broker_task.proofs.MovingCalls.{listens_as, asked_grows, unread_listens, drained_grows, drained_listens}
use Rattle.broker_task.proofs.MovingLaws.{grows_got}
use Rattle.broker_task.proofs.daemon.Daemon.listen.Goals as goal

told : (r : Result Bool Memory) (a b : Bool) → r ≡ Ok a → r ≡ Ok b → a ≡ b
told r a b one other = cc

is_no : (b : Bool) → not b ≡ true → b ≡ false
is_no true is = cc
is_no false is = refl

is_yes : (b : Bool) → not b ≡ false → b ≡ true
is_yes true is = refl
is_yes false is = cc

pub returns-then-is_unread-clause-read : goal.returns-then-is_unread-clause-read
returns-then-is_unread-clause-read c = λ events r. reads_heard c.is_connected.new.self (record c.is_connected.new.self { port = c.peer_gone.new.self }) events refl (ap (λ (p : PortState). p.fault) c.peer_gone.ensures.same) c.peer_gone.ensures.heard (c.is_connected.ensures.read events r)

pub returns-then-is_unread-clause-cause : goal.returns-then-is_unread-clause-cause
returns-then-is_unread-clause-cause c = λ is.
    found_gone (view c.is_connected.new.self.port.end) (view c.peer_gone.new.self.end) c.peer_gone.new.self.end.side c.peer_gone.result c.peer_gone.ensures.view (is_yes c.peer_gone.result (told (Ok (not c.peer_gone.result)) (not c.peer_gone.result) false refl is)) c.peer_gone.ensures.noted

pub returns-clause-read : goal.returns-clause-read
returns-clause-read c = λ events r. reads_heard c.is_connected.new.self (record c.is_connected.new.self { port = c.drain.new.self }) events refl c.in_ok-drained.ensures.same.4 c.in_ok-drained.ensures.heard (c.is_connected.ensures.read events r)

pub returns-clause-cause : goal.returns-clause-cause
returns-clause-cause c = λ is.
    drained_over (view c.is_connected.new.self.port.end) (view c.drain.new.self.end) c.in_ok-drained.drained c.drain.new.buf c.drain.new.self.end.side.saw c.drain.new.self.end.side.notes.gone c.in_ok-drained.ensures.view
    (sym c.more_may_come.ensures ∙ told (Ok c.more_may_come.result) c.more_may_come.result false refl is)

pub returns-then-is_unread-clause-open : goal.returns-then-is_unread-clause-open
returns-then-is_unread-clause-open c = λ is.
    let connected = c.if-not-is_connected.false in (
      c.peer_gone.ensures.«open»,
      λ h. asked_going (view c.is_connected.new.self.port.end) (view c.peer_gone.new.self.end) c.peer_gone.result c.peer_gone.ensures.view ((c.is_connected.ensures.«open» connected).1 h),
    )

pub returns-clause-open : goal.returns-clause-open
returns-clause-open c = λ is.
    let connected = c.if-not-is_connected.false in (
      c.drain.ensures.«open»,
      λ h.
          drained_going (view c.is_connected.new.self.port.end) (view c.drain.new.self.end) c.in_ok-drained.drained c.drain.new.buf c.drain.new.self.end.side.saw c.in_ok-drained.ensures.view
          (sym c.more_may_come.ensures ∙ told (Ok c.more_may_come.result) c.more_may_come.result true refl is) ((c.is_connected.ensures.«open» connected).1 h),
    )

pub returns-then-not-is_connected-clause-listens : goal.returns-then-not-is_connected-clause-listens
returns-then-not-is_connected-clause-listens c =
    grows_got c.args.self.now c.is_connected.new.self.port.end c.requires.up (subst (λ (l : List ℕ). length (view c.args.self.now.port.end).got ≤ length l) (sym c.is_connected.ensures.got) (omega arith)) c.is_connected.ensures.sent

pub returns-then-is_unread-clause-listens : goal.returns-then-is_unread-clause-listens
returns-then-is_unread-clause-listens c =
    let grows =
    asked_grows c.args.self.now c.is_connected.new.self c.peer_gone.new.self c.peer_gone.result c.requires.up c.is_connected.ensures.got c.is_connected.ensures.sent c.peer_gone.ensures.view in
    listens_as (not c.peer_gone.result) c.args.self.now (record c.is_connected.new.self { port = c.peer_gone.new.self }) grows
    (λ is.
    let connected = c.if-not-is_connected.false in
    unread_listens c.args.self.now c.is_connected.new.self c.peer_gone.new.self c.peer_gone.result c.requires.up grows (is_no c.peer_gone.result is) (c.is_connected.ensures.begins connected) c.is_connected.ensures.sent c.is_connected.ensures.port
    c.is_connected.ensures.same.1 (c.is_unread.ensures.0 c.if-is_unread.true) c.peer_gone.ensures.end c.peer_gone.ensures.view c.peer_gone.ensures.trail c.peer_gone.ensures.noted)

pub returns-clause-listens : goal.returns-clause-listens
returns-clause-listens c =
    listens_as c.more_may_come.result c.args.self.now (record c.is_connected.new.self { port = c.drain.new.self })
    (drained_grows c.args.self.now c.is_connected.new.self c.drain.new.self c.in_ok-drained.drained c.drain.new.buf c.drain.new.self.end.side.saw c.requires.up c.is_connected.ensures.got c.is_connected.ensures.sent
    c.in_ok-drained.ensures.view)
    (λ is.
    let connected = c.if-not-is_connected.false in
    drained_listens c.args.self.now c.is_connected.new.self c.drain.new.self c.in_ok-drained.drained c.args.buf.now c.drain.new.buf c.drain.new.self.end.side.saw c.requires.up (c.is_connected.ensures.begins connected) c.is_connected.ensures.sent
    c.is_connected.ensures.got c.is_connected.ensures.port c.requires.some c.drain.ensures.long c.drain.ensures.end c.in_ok-drained.ensures.view c.in_ok-drained.ensures.trail c.in_ok-drained.ensures.cause (sym c.more_may_come.ensures ∙ is))

pub returns-then-is_unread-clause-line : goal.returns-then-is_unread-clause-line
returns-then-is_unread-clause-line c =
    let m = c.is_connected.new.self in
    let only = c.peer_gone.ensures.same in
    line_open m.domain m (record m { port = c.peer_gone.new.self }) refl (ap (λ (p : PortState). p.talker) only) (ap (λ (p : PortState). p.own) only) c.peer_gone.ensures.end.1 (ap (λ (e : EndView). e.turned) c.peer_gone.ensures.view)
    c.peer_gone.ensures.«open» (λ g. ap (λ (p : PortState). is_some p.version) only ∙ c.is_connected.ensures.line.greets (sym (ap (λ (p : PortState). p.greeted) only) ∙ g)) c.is_connected.ensures.line

pub returns-then-is_unread-clause-same : goal.returns-then-is_unread-clause-same
returns-then-is_unread-clause-same c =
    let m = c.is_connected.new.self in
    let z = record m { port = c.peer_gone.new.self } in
    same_then c.args.self.now m z c.is_connected.ensures.same.0 (record { domain = refl; awaited = refl; given = ap first_view c.peer_gone.ensures.view })

pub returns-clause-line : goal.returns-clause-line
returns-clause-line c =
    let m = c.is_connected.new.self in
    let same = c.in_ok-drained.ensures.same in
    line_drained m.domain m (record m { port = c.drain.new.self }) c.in_ok-drained.drained c.drain.new.buf c.drain.new.self.end.side.saw refl same.0 same.1 same.2 same.3 c.drain.ensures.end.1 c.in_ok-drained.ensures.view
    c.drain.ensures.«open» c.is_connected.ensures.line

pub returns-clause-same : goal.returns-clause-same
returns-clause-same c =
    let m = c.is_connected.new.self in
    let z = record m { port = c.drain.new.self } in
    same_then c.args.self.now m z c.is_connected.ensures.same.0 (same_drained m z c.in_ok-drained.drained c.drain.new.buf c.drain.new.self.end.side.saw refl refl c.in_ok-drained.ensures.view)
