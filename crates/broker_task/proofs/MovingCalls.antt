-- What one call of a port moved, or found.
use Rattle.std.proofs.Common.{◌≡◌, ◌↔◌, ℕ, ◌<◌, ◌≤◌, Option, Bool, true, false, List, length, take, refl, sym, ap, ◌∙◌, subst, arith, inl, inr}
use Rattle.std.specs.Prelude.{◌⊎◌, IsSome, IsTrue}
use Rattle.std.proofs.lemmas.Bool.{false≢true}
use Rattle.std.proofs.lemmas.List.{length-append}
use Rattle.vchan_protocol.specs.declared.call.Answer.TheVariants.{Gone}
use Rattle.vchan_protocol.specs.declared.call.Call.TheVariants.{Drain, PeerGone as AskGone}
use Rattle.vchan_protocol.specs.declared.call.EndState.TheVariants.{Open}
use Rattle.vchan_protocol.specs.Table.Calls.{Trace}
use Rattle.vchan_protocol.specs.Answering.Causes.{DrainCause}
use Rattle.vchan_protocol.specs.Answering.Loads.{loads_of}
use Rattle.vchan_protocol.specs.History.Core.{standing_of}
use Rattle.end_view.specs.EndView.{EndView}
use Rattle.vchan_lifecycle.specs.Lifecycle.{drained_to, drain_told, FindsNotYet}
use Rattle.vchan_lifecycle.specs.declared.DrainAnswer.{DrainAnswer}
use Rattle.vchan_lifecycle.specs.declared.DrainAnswer.TheVariants.{More, NotYet, AllRead, PeerGone}
use Rattle.vchan_lifecycle.proofs.DrainLaws.{drained_sent, drained_got}
use Rattle.vchan_packet.specs.Packet.{sent_to, FailsToSend}
use Rattle.vchan_packet.proofs.FailingLaws.{got_no_more, sent_no_more}
use Rattle.vchan_packet.specs.declared.SendAnswer.TheVariants.{Sent}
use Rattle.vchan_rule.specs.Seated.{SeatedEnd, view}
use Rattle.vchan_rule.specs.Ends.{IsSameEnd}
use Rattle.vchan_rule.specs.Called.{most_asked}
use Rattle.qrexec_frame.specs.declared.message.Message.{Message}
use Rattle.qrexec_frame.specs.Messages.{written}
use Rattle.vchan_notify.specs.Notify.{HasFoundGone, asked_gone}
use Rattle.broker_task.specs.declared.outbox.Letter.{Letter}
use Rattle.broker_task.specs.declared.daemon.Daemon.{Daemon}
use Rattle.control_port.specs.Port.{PortState}
use Rattle.control_port.proofs.DrainLaws.{got_more}
use Rattle.broker_task.specs.Letters.{IsAt, AreHeld}
use Rattle.broker_task.specs.Lines.{end_of, is_gone, more_may_come, OnlyPort}
use Rattle.broker_task.specs.Moving.{Begins, Grows, HearsNothing, IsLater, SaysNothing, has_not_greeted, all_held, greeting_waits, letter_waits, Listens, ListensAsTold, SendsMore, SendsOrNot, GreetsAsTold}
use Rattle.broker_task.proofs.MovingLaws.{later_self, grows_got}

-- a message has some bytes
pub some_bytes : (m : Message) → 0 < length (written m)
some_bytes m = omega arith

pub drained_found : (old new : SeatedEnd) (drained : DrainAnswer) (before after : List ℕ) (saw : Bool) → 0 < length before → length after ≡ length before → view new ≡ drained_to (view old) drained after saw
    → Trace (standing_of old.side) (Drain (most_asked before)) new.side.trail (drain_told drained)
    → ((other : DrainAnswer) → (drained ≡ other) ↔ DrainCause (standing_of old.side) (most_asked before) (loads_of (standing_of old.side) new.side.trail) (drain_told other))
    → more_may_come drained ≡ true → (length (view old).got < length (view new).got) ⊎ FindsNotYet old new
drained_found old new (More count) before after saw some long is trail cause more = inl (got_more old new count before after saw some long is ((cause (More count)).0 refl))
drained_found old new (NotYet prod cons) before after saw some long is trail cause more =
    inr (record { most = most_asked before; some = omega (arith, some); prod = prod; cons = cons; trail = trail; cause = (cause (NotYet prod cons)).0 refl })
drained_found old new AllRead before after saw some long is trail cause more = absurd (false≢true more)
drained_found old new (PeerGone prod cons) before after saw some long is trail cause more = absurd (false≢true more)

pub sent_more : (old new : SeatedEnd) (m : Message) → view new ≡ sent_to (view old) Sent (written m) → ((view new).got ≡ (view old).got) × (length (view old).sent < length (view new).sent)
sent_more old new m is =
    (ap (λ (v : EndView). v.got) is, subst (λ (v : EndView). length (view old).sent < length v.sent) (sym is) (omega (arith, length-append (view old).sent (written m), some_bytes m)))

-- ---- a domain that is listened to

pub listens_as : (b : Bool) (x y : Daemon) → Grows x.port.end y.port.end → (b ≡ true → Listens x y) → ListensAsTold b x y
listens_as true x y grows listens = listens refl
listens_as false x y grows listens = grows

-- a look whether the peer is gone gets nothing
pub asked_grows : (x m : Daemon) (q : PortState) (gone : Bool) → is_gone x ≡ false → (end_of m).got ≡ (end_of x).got → (end_of m).sent ≡ (end_of x).sent → view q.end ≡ asked_gone (view m.port.end) gone → Grows x.port.end q.end
asked_grows x m q gone up got sent is =
    grows_got x q.end up (subst (λ (l : List ℕ). length (end_of x).got ≤ length l) (sym (ap (λ (v : EndView). v.got) is ∙ got)) (omega arith)) (ap (λ (v : EndView). v.sent) is ∙ sent)

pub unread_listens : (x m : Daemon) (q : PortState) (gone : Bool) → is_gone x ≡ false → Grows x.port.end q.end → gone ≡ false → Begins x.port.end m.port.end → (end_of m).sent ≡ (end_of x).sent → OnlyPort x m → m.port.version ≡ x.port.version
    → IsSome m.port.version × (64 ≤ length m.outbox.letters.items) → IsSameEnd m.port.end q.end → view q.end ≡ asked_gone (view m.port.end) gone → Trace (standing_of m.port.end.side) AskGone q.end.side.trail (Gone gone)
    → (IsTrue gone ↔ HasFoundGone q.end.side) → Listens x (record m { port = q })
unread_listens x m q gone up grows here begins sent only version full same is trail noted =
    let letters : m.outbox.letters.items ≡ x.outbox.letters.items = ap (λ (z : Daemon). z.outbox.letters.items) only in record {
      up = up;
      grows = grows;
      sent = ap (λ (v : EndView). v.sent) is ∙ sent;
      letters = letters;
      found = inr (record {
        began = m.port.end;
        begins = begins;
        same = same;
        finds = inr (
          subst (λ (o : Option ℕ). IsSome o) version full.0,
          subst (λ (l : List Letter). 64 ≤ length l) letters full.1,
          record { trail = subst (λ (g : Bool). Trace (standing_of m.port.end.side) AskGone q.end.side.trail (Gone g)) here trail; here = λ found. false≢true (sym here ∙ noted.1 found) },
        );
      });
    }

-- a drain loses nothing
pub drained_grows : (x m : Daemon) (q : PortState) (drained : DrainAnswer) (after : List ℕ) (saw : Bool) → is_gone x ≡ false → (end_of m).got ≡ (end_of x).got → (end_of m).sent ≡ (end_of x).sent → view q.end ≡ drained_to (view m.port.end) drained after saw → Grows x.port.end q.end
drained_grows x m q drained after saw up got sent is =
    grows_got x q.end up
    (subst (λ (l : List ℕ). length l ≤ length (view q.end).got) got (subst (λ (v : EndView). length (end_of m).got ≤ length v.got) (sym is) (drained_got (view m.port.end) drained after saw)))
    (ap (λ (v : EndView). v.sent) is ∙ drained_sent (view m.port.end) drained after saw ∙ sent)

pub drained_listens : (x m : Daemon) (q : PortState) (drained : DrainAnswer) (before after : List ℕ) (saw : Bool) → is_gone x ≡ false → Begins x.port.end m.port.end → (end_of m).sent ≡ (end_of x).sent → (end_of m).got ≡ (end_of x).got → OnlyPort x m
    → 0 < length before → length after ≡ length before → IsSameEnd m.port.end q.end → view q.end ≡ drained_to (view m.port.end) drained after saw
    → Trace (standing_of m.port.end.side) (Drain (most_asked before)) q.end.side.trail (drain_told drained)
    → ((other : DrainAnswer) → (drained ≡ other) ↔ DrainCause (standing_of m.port.end.side) (most_asked before) (loads_of (standing_of m.port.end.side) q.end.side.trail) (drain_told other))
    → more_may_come drained ≡ true → Listens x (record m { port = q })
drained_listens x m q drained before after saw up begins sent got only some long same is trail cause more = record {
  up = up;
  grows = drained_grows x m q drained after saw up got sent is;
  sent = ap (λ (v : EndView). v.sent) is ∙ drained_sent (view m.port.end) drained after saw ∙ sent;
  letters = ap (λ (z : Daemon). z.outbox.letters.items) only;
  found = by_found (drained_found m.port.end q.end drained before after saw some long is trail cause more);
}
  where
    by_found : (length (view m.port.end).got < length (view q.end).got) ⊎ FindsNotYet m.port.end q.end
        → (length (end_of x).got < length (view q.end).got) ⊎ HearsNothing x.port.version x.outbox.letters.items x.port.end q.end
    by_found (inl took) = inl (subst (λ (l : List ℕ). length l < length (view q.end).got) got took)
    by_found (inr none) = inr (record { began = m.port.end; begins = begins; same = same; finds = inl none })

-- ---- a domain that is sent to

nothing_got : (version : Option ℕ) (greeted : Bool) (letters : List Letter) (old new : SeatedEnd) → SaysNothing version greeted letters old new → (view new).got ≡ (view old).got
nothing_got version greeted letters old new (has_not_greeted none same) = ap (λ (e : SeatedEnd). (view e).got) same
nothing_got version greeted letters old new (all_held is held same) = ap (λ (e : SeatedEnd). (view e).got) same
nothing_got version greeted letters old new (greeting_waits is same fails) = got_no_more _ old new fails
nothing_got version greeted letters old new (letter_waits at l is there free held same fails) = got_no_more _ old new fails

still : (x y : Daemon) → y.outbox.letters.items ≡ x.outbox.letters.items → IsLater x.outbox.letters.items y.outbox.letters.items
still x y is = subst (λ (l : List Letter). IsLater x.outbox.letters.items l) (sym is) (later_self x.outbox.letters.items)

pub greeting_waits_lem : (x y : Daemon) → (view y.port.end).state ≡ Open → OnlyPort x y → GreetsAsTold false x y → SendsOrNot x y
greeting_waits_lem x y up only says = record {
  up = up;
  got = nothing_got y.port.version y.port.greeted x.outbox.letters.items x.port.end y.port.end says;
  sends = inr (says, still x y (ap (λ (z : Daemon). z.outbox.letters.items) only));
}

pub all_held_lem : (x y : Daemon) → (view y.port.end).state ≡ Open → OnlyPort x y → GreetsAsTold true x y → y.port.greeted ≡ true → AreHeld y.outbox.letters.items → SendsOrNot x y
all_held_lem x y up only (inl same) greeted held = record {
  up = up;
  got = ap (λ (z : Daemon). (end_of z).got) same;
  sends = inr (
    all_held greeted (subst (λ (l : List Letter). AreHeld l) (ap (λ (z : Daemon). z.outbox.letters.items) only) held) (ap (λ (z : Daemon). z.port.end) same),
    still x y (ap (λ (z : Daemon). z.outbox.letters.items) only),
  );
}
all_held_lem x y up only (inr more) greeted held = record { up = up; got = more.got; sends = inl more.more }

pub letter_waits_lem : (x y z : Daemon) (at : ℕ) (l : Letter) → (view z.port.end).state ≡ Open → OnlyPort x y → GreetsAsTold true x y → y.port.greeted ≡ true → z.port.greeted ≡ y.port.greeted → z.outbox ≡ y.outbox → IsAt y.outbox.letters.items at l → l.held ≡ false
    → AreHeld (take at y.outbox.letters.items) → IsSameEnd y.port.end z.port.end → FailsToSend (written l.message) y.port.end z.port.end → SendsOrNot x z
letter_waits_lem x y z at l up only (inl same) greeted still_greeted box there free held end fails =
    let letters : y.outbox.letters.items ≡ x.outbox.letters.items = ap (λ (w : Daemon). w.outbox.letters.items) only in record {
      up = up;
      got = got_no_more _ y.port.end z.port.end fails ∙ ap (λ (w : Daemon). (end_of w).got) same;
      sends = inr (
        letter_waits at l (still_greeted ∙ greeted) (subst (λ (ls : List Letter). IsAt ls at l) letters there) free (subst (λ (ls : List Letter). AreHeld (take at ls)) letters held)
            (subst (λ (w : Daemon). IsSameEnd w.port.end z.port.end) same end)
            (subst (λ (w : Daemon). FailsToSend (written l.message) w.port.end z.port.end) same fails),
        still x z (ap (λ b. b.letters.items) box ∙ letters),
      );
    }
letter_waits_lem x y z at l up only (inr more) greeted still_greeted box there free held end fails =
    record { up = up; got = got_no_more _ y.port.end z.port.end fails ∙ more.got; sends = inl (subst (λ (s : List ℕ). length (end_of x).sent < length s) (sym (sent_no_more _ y.port.end z.port.end fails)) more.more) }

pub letter_goes : (x y z : Daemon) (m : Message) → GreetsAsTold true x y → view z.port.end ≡ sent_to (view y.port.end) Sent (written m) → SendsMore x z
letter_goes x y z m (inl same) is =
    let both = sent_more y.port.end z.port.end m is in
    record { got = both.0 ∙ ap (λ (w : Daemon). (end_of w).got) same; more = subst (λ (w : Daemon). length (end_of w).sent < length (end_of z).sent) same both.1 }
letter_goes x y z m (inr more) is = let both = sent_more y.port.end z.port.end m is in record { got = both.0 ∙ more.got; more = omega (arith, more.more, both.1) }
