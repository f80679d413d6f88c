-- What an end has noted of its peer's end agrees after each of its events and answers, whatever its peer does.
use Rattle.std.proofs.Common.{◌≡◌, ℕ, Bool, true, false, not, ◌||◌, Option, Some, None, IsSome, List, [], ◌∷◌, ◌++◌, refl, subst, sym, ap, ◌∙◌}
use Rattle.std.proofs.lemmas.Bool.{eq-eqb, false≢true, or_left, or_right}
use Rattle.std.proofs.Math.Bool.{or-false}
use Rattle.ring_words.specs.declared.page.Role.{Role}
use Rattle.ring_words.specs.declared.page.Role.TheVariants.{Server, Client}
use Rattle.vchan_protocol.specs.declared.op.Op.{Op}
use Rattle.vchan_protocol.specs.declared.op.Op.TheVariants.{Load, LoadByte, Store, StoreByte, Or, And, Swap, Nothing}
use Rattle.vchan_protocol.specs.declared.op.PastEvent.{PastEvent}
use Rattle.vchan_protocol.specs.declared.call.Answer.{Answer}
use Rattle.vchan_protocol.specs.declared.call.Answer.TheVariants.{PeerClosed, AllRead, Gone, PeerGone as IsGone}
use Rattle.vchan_protocol.specs.declared.call.Call.{Call}
use Rattle.vchan_protocol.specs.declared.call.Call.TheVariants.{Write, Send, Read, Recv, Drain, DataReady, BufferSpace, Connect, Close, TakeEvent, Retire, PeerGone}
use Rattle.vchan_protocol.specs.declared.call.EndState.{EndState}
use Rattle.vchan_protocol.specs.declared.call.EndState.TheVariants.{Fresh, Open, Shut}
use Rattle.vchan_protocol.specs.declared.side.Side.{Side}
use Rattle.vchan_protocol.specs.declared.side.Begun.{Begun}
use Rattle.vchan_protocol.specs.declared.side.EndedBy.{EndedBy}
use Rattle.vchan_protocol.specs.declared.side.EndedBy.TheVariants.{AllRead as ByAllRead}
use Rattle.vchan_protocol.specs.Table.Plan.{Plan, GoesOn, answers, does, after, past}
use Rattle.vchan_protocol.specs.Table.Ends.{Standing, standing_after}
use Rattle.vchan_protocol.specs.Table.Calls.{IsAllowed, Trace}
use Rattle.vchan_protocol.specs.History.Core.{made, answered, settled, side_after, ending, drains, first_ended, saw_after, is_shut, begun_standing, standing_of, standing_along, plan_left, op_next}
use Rattle.vchan_protocol.specs.Honest.RingLaw.{CallLawful}
use Rattle.vchan_protocol.specs.Answering.Loads.{loads_of}
use Rattle.vchan_protocol.specs.Answering.Causes.{Cause}
use Rattle.vchan_protocol.specs.OneEnd.EndingLaw.{EndingNoted, notices, has_noticed, tells_end}
use Rattle.vchan_protocol.specs.OneEnd.EndingLaws.{EndingAnswered}
use Rattle.vchan_protocol.proofs.Honest.EndSteps.{InLawful, in_lawful}
use Rattle.vchan_protocol.proofs.Honest.LifeTrails.{or_assoc}
use Rattle.vchan_protocol.proofs.Answering.AnswerTrails.{unnoticed}
use Rattle.vchan_protocol.proofs.Answering.AnswerCauses.{NoticesEnd}
use Rattle.vchan_protocol.proofs.Answering.AnswerLaws.{has_cause, notices_end, each_trace}

-- ---- what one event shows

-- one of two holds
or_either : (a b : Bool) (P : Type 0) → (a || b) ≡ true → (a ≡ true → P) → (b ≡ true → P) → P
or_either true b P is first second = first refl
or_either false b P is first second = second is

pub saw_after_lem : (s : Side) (op : Op) (taken : ℕ) → saw_after op taken s ≡ (s.saw || notices (standing_of s) op taken)
saw_after_lem s (Load word) taken = refl
saw_after_lem s (LoadByte word at) taken = unnoticed s.saw (not (is_shut s.state))
saw_after_lem s (StoreByte word at) taken = unnoticed s.saw (not (is_shut s.state))
saw_after_lem s (Store word value) taken = unnoticed s.saw (not (is_shut s.state))
saw_after_lem s (Or word bits) taken = unnoticed s.saw (not (is_shut s.state))
saw_after_lem s (And word bits) taken = unnoticed s.saw (not (is_shut s.state))
saw_after_lem s (Swap word value) taken = unnoticed s.saw (not (is_shut s.state))
saw_after_lem s Nothing taken = unnoticed s.saw (not (is_shut s.state))

saw_stays : (s : Side) (op : Op) (taken : ℕ) → s.saw ≡ true → saw_after op taken s ≡ true
saw_stays s op taken saw = saw_after_lem s op taken ∙ or_left s.saw _ saw

has_noticed_push : (now : Standing) (events : List PastEvent) (op : Op) (taken : ℕ) →
    has_noticed now (events ++ past op taken ∷ []) ≡ (has_noticed now events || notices (standing_along now events) op taken)
has_noticed_push now [] op taken = or-false (notices now op taken)
has_noticed_push now (event ∷ events) op taken =
    ap (λ (b : Bool). notices now event.op event.taken || b) (has_noticed_push (standing_after now event.op) events op taken)
    ∙ sym (or_assoc (notices now event.op event.taken) (has_noticed (standing_after now event.op) events) (notices (standing_along (standing_after now event.op) events) op taken))

-- after its event an end that has noticed its peer's end in its call has seen it
saw_noticed : (s : Side) (i : InLawful s) (taken : ℕ) → EndingNoted s → has_noticed (begun_standing s i.begun) (made s (op_next s) taken).trail ≡ true → (made s (op_next s) taken).saw ≡ true
saw_noticed s i taken h noticed =
    let e = begun_standing s i.begun in
    let is : has_noticed e (s.trail ++ past (op_next s) taken ∷ []) ≡ (has_noticed e s.trail || notices (standing_of s) (op_next s) taken) =
    has_noticed_push e s.trail (op_next s) taken ∙ ap (λ (now : Standing). has_noticed e s.trail || notices now (op_next s) taken) i.lawful.stands in
    or_either (has_noticed e s.trail) (notices (standing_of s) (op_next s) taken) (saw_after (op_next s) taken s ≡ true) (sym is ∙ noticed)
    (λ before. saw_stays s (op_next s) taken (h.noticed i.begun i.is before)) (λ now. saw_after_lem s (op_next s) taken ∙ or_right s.saw _ now)

-- ---- what an answer ends

shut_retires : (role : Role) (call : Call) → IsAllowed role Shut call → call ≡ Retire
shut_retires role Retire allowed = refl
shut_retires Server Connect allowed = absurd allowed
shut_retires Client Connect allowed = absurd allowed
shut_retires role (Write n) allowed = absurd allowed
shut_retires role (Send n) allowed = absurd allowed
shut_retires role (Read n) allowed = absurd allowed
shut_retires role (Recv n) allowed = absurd allowed
shut_retires role (Drain n) allowed = absurd allowed
shut_retires role DataReady allowed = absurd allowed
shut_retires role BufferSpace allowed = absurd allowed
shut_retires role Close allowed = absurd allowed
shut_retires role TakeEvent allowed = absurd allowed
shut_retires role PeerGone allowed = absurd allowed

-- no answer of a shut end tells of its peer's end
unshut_ends : (e : Standing) (call : Call) (events : List PastEvent) (answer : Answer) → IsAllowed e.role e.state call → Trace e call events answer → tells_end answer ≡ true → is_shut e.state ≡ false
unshut_ends e call events answer allowed led tells = go e.state refl
  where
    go : (state : EndState) → e.state ≡ state → is_shut state ≡ false
    go Fresh is = refl
    go Open is = refl
    go Shut is =
        let retires : call ≡ Retire = shut_retires e.role call (subst (λ (state : EndState). IsAllowed e.role state call) is allowed) in
        let done = subst (λ (c : Call). Cause e c (loads_of e events) answer) retires (has_cause e call events answer led) in
        absurd (false≢true (subst (λ (a : Answer). tells_end a ≡ true) done tells))

end_noticed : (state : EndState) (noticed : Bool) (answer : Answer) → tells_end answer ≡ true → NoticesEnd state noticed answer → is_shut state ≡ false → noticed ≡ true
end_noticed state noticed PeerClosed tells owes unshut = owes unshut
end_noticed state noticed AllRead tells owes unshut = owes unshut
end_noticed state noticed (Gone is) tells owes unshut = owes tells unshut
end_noticed state noticed (IsGone prod cons) tells owes unshut = owes unshut
end_noticed state noticed _ tells owes unshut = absurd (false≢true tells)

ending_tells : (answer : Answer) → IsSome (ending answer) → tells_end answer ≡ true
ending_tells AllRead ends = refl
ending_tells (IsGone prod cons) ends = refl
ending_tells _ ends = absurd (false≢true ends)

drain_ends : (answer : Answer) → drains answer ≡ true → IsSome (ending answer)
drain_ends AllRead is = refl
drain_ends (IsGone prod cons) is = refl
drain_ends _ is = absurd (false≢true is)

all_read_drains : (answer : Answer) → ending answer ≡ Some ByAllRead → drains answer ≡ true
all_read_drains AllRead is = refl
all_read_drains (IsGone prod cons) is = cc
all_read_drains _ is = cc

-- an end has seen what its answer tells of its peer's end
saw_end : (s : Side) (i : InLawful s) (taken : ℕ) (answer : Answer) → CallLawful s → GoesOn (plan_left s) → EndingNoted s → after (plan_left s) taken ≡ answers answer → tells_end answer ≡ true →
    (made s (op_next s) taken).saw ≡ true
saw_end s i taken answer lawful more h is tells =
    let e = begun_standing s i.begun in
    let trail = (made s (op_next s) taken).trail in
    let led : Trace e i.begun.call trail answer = each_trace s i.begun taken answer lawful i.is more is in
    saw_noticed s i taken h (end_noticed e.state (has_noticed e trail) answer tells (notices_end e i.begun.call trail answer led) (unshut_ends e i.begun.call trail answer i.lawful.allowed led tells))

-- ---- an event of the end

-- the first of two endings is there if one is
first_some : (first second : Option EndedBy) (P : Type 0) → IsSome (first_ended first second) → (IsSome first → P) → (IsSome second → P) → P
first_some None second P ends one two = two ends
first_some (Some ended) second P ends one two = one refl

first_is : (first second : Option EndedBy) (ended : EndedBy) (P : Type 0) → first_ended first second ≡ Some ended → (first ≡ Some ended → P) → (second ≡ Some ended → P) → P
first_is None second ended P is one two = two is
first_is (Some other) second ended P is one two = one is

first_stays : (first second : Option EndedBy) → IsSome first → first_ended first second ≡ first
first_stays None second there = absurd (false≢true there)
first_stays (Some ended) second there = refl

first_there : (first second : Option EndedBy) → IsSome first → IsSome (first_ended first second)
first_there None second there = absurd (false≢true there)
first_there (Some ended) second there = refl

second_there : (first second : Option EndedBy) → IsSome second → IsSome (first_ended first second)
second_there None second there = there
second_there (Some ended) second there = refl

answered_notes : (s : Side) (m : Side) (answer : Answer) → EndingNoted s → m.ended ≡ s.ended → m.drained ≡ s.drained → (s.saw ≡ true → m.saw ≡ true) → (IsSome (ending answer) → m.saw ≡ true) →
    EndingNoted (answered m answer)
answered_notes s m answer h ended drained stays saw = record {
  noticed = λ b is. cc;
  ended_saw = λ there. first_some m.ended (ending answer) (m.saw ≡ true) there (λ before. stays (h.ended_saw (subst (λ (o : Option EndedBy). IsSome o) ended before))) saw;
  ended_drained = λ is. first_is m.ended (ending answer) ByAllRead ((m.drained || drains answer) ≡ true) is
      (λ before. or_left m.drained (drains answer) (drained ∙ h.ended_drained (sym ended ∙ before))) (λ now. or_right m.drained (drains answer) (all_read_drains answer now));
  drained_saw = λ is. or_either m.drained (drains answer) (m.saw ≡ true) is (λ before. stays (h.drained_saw (sym drained ∙ before))) (λ now. saw (drain_ends answer now));
  drained_ended = λ is. or_either m.drained (drains answer) (IsSome (first_ended m.ended (ending answer))) is
      (λ before. first_there m.ended (ending answer) (subst (λ (o : Option EndedBy). IsSome o) (sym ended) (h.drained_ended (sym drained ∙ before)))) (λ now. second_there m.ended (ending answer) (drain_ends answer now));
}

one_begun : (call : Option Begun) (one two : Begun) → call ≡ Some one → call ≡ Some two → one ≡ two
one_begun call one two p q = cc

pub step_keeps_notes : (s : Side) (taken : ℕ) → CallLawful s → GoesOn (plan_left s) → EndingNoted s → EndingNoted (side_after s taken)
step_keeps_notes s taken lawful more h = go (after (plan_left s) taken) refl
  where
    i : InLawful s
    i = in_lawful s lawful more

    go : (rest : Plan) → after (plan_left s) taken ≡ rest → EndingNoted (settled (made s (op_next s) taken) rest)
    go (answers answer) is =
        answered_notes s (made s (op_next s) taken) answer h refl refl (saw_stays s (op_next s) taken) (λ ends. saw_end s i taken answer lawful more h is (ending_tells answer ends))
    go (does op next) is = record {
      noticed = λ b call noticed. saw_noticed s i taken h (subst (λ (c : Begun). has_noticed (begun_standing s c) (made s (op_next s) taken).trail ≡ true) (one_begun s.call b i.begun call i.is) noticed);
      ended_saw = λ there. saw_stays s (op_next s) taken (h.ended_saw there);
      ended_drained = h.ended_drained;
      drained_saw = λ drained. saw_stays s (op_next s) taken (h.drained_saw drained);
      drained_ended = h.drained_ended;
    }

pub answer_noted : (s : Side) (taken : ℕ) (answer : Answer) → CallLawful s → GoesOn (plan_left s) → EndingNoted s → after (plan_left s) taken ≡ answers answer →
    EndingAnswered s (answered (made s (op_next s) taken) answer) answer
answer_noted s taken answer lawful more h is = record {
  seen = saw_end s i taken answer lawful more h is;
  all_read = λ all. (or_right s.drained (drains answer) (ap drains all), λ none. first_of_none s.ended (ending answer) none ∙ ap ending all);
  gone = λ prod cons gone none. first_of_none s.ended (ending answer) none ∙ ap ending gone;
  gone_drained = λ prod cons gone same. or_right s.drained (drains answer) (ap drains gone ∙ eq-eqb prod cons same);
  saw = saw_stays s (op_next s) taken;
  drained = or_left s.drained (drains answer);
  ended = first_stays s.ended (ending answer);
}
  where
    i : InLawful s
    i = in_lawful s lawful more

    first_of_none : (first second : Option EndedBy) → first ≡ None → first_ended first second ≡ second
    first_of_none first second none = ap (λ (o : Option EndedBy). first_ended o second) none
