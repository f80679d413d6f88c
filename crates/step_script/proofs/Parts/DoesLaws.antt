-- What is done at one end, and what it leaves alone.
use Rattle.std.proofs.Common.{◌≡◌, ℕ, ◌≤◌, Option, Some, None, IsNone, Result, Ok, Err, List, [], ◌∷◌, ◌++◌, length, take, refl, subst, sym, ap, ◌∙◌, arith, append-nil, append_assoc}
use Rattle.std.specs.Option.{option_map}
use Rattle.std.specs.Result.{OnOk}
use Rattle.std.proofs.Math.Seq.{take-length}
use Rattle.std.proofs.lemmas.Bool.{false≢true}
use Rattle.std.proofs.lemmas.Grind.{flat_map-append}
use Rattle.ring_words.specs.declared.page.Role.{Role}
use Rattle.vchan_protocol.specs.declared.call.Answer.{Answer}
use Rattle.vchan_protocol.specs.declared.call.Call.{Call}
use Rattle.vchan_core.specs.declared.phase.Phase.{Phase}
use Rattle.vchan_protocol.specs.declared.side.Begun.{Begun}
use Rattle.vchan_protocol.specs.declared.side.Side.{Side}
use Rattle.vchan_core.specs.declared.machine.Machine.{Machine}
use Rattle.vchan_core.specs.declared.plain.Plain.{Plain}
use Rattle.vchan_protocol.specs.History.WholeCall.{alone, called, call_answer, whole_call}
use Rattle.vchan_protocol.specs.Table.Apply.{filled}
use Rattle.vchan_protocol.specs.Table.Calls.{payload_of}
use Rattle.vchan_protocol.specs.History.Core.{Core, side_of, bytes_loaded, begun, plan_left}
use Rattle.vchan_core.specs.Page.StandsFor.{IsInCall, StandsFor, machine_of, other_of}
use Rattle.vchan_core.specs.OneMachine.Phases.{IsIdle, payload_needed, buffer_needed, payload_at, buffer_at, standing}
use Rattle.vchan_protocol.specs.Table.Ends.{read_size}
use Rattle.vchan_protocol.proofs.History.EventLaws.{side_of_with_side}
use Rattle.vchan_core.proofs.WholeCall.RunLaws.{machine_stands}
use Rattle.step_script.specs.declared.player.end_player.EndPlayer.{EndPlayer}
use Rattle.step_script.specs.declared.player.refusal.LineRefusal.{LineRefusal}
use Rattle.step_script.specs.Meaning.Output.{TextLine, answered as line_answered, refused, line_text, text_of}
use Rattle.vchan_core.specs.WholeCall.Stepped.{stepped}
use Rattle.step_script.specs.Meaning.Played.{Outcome, bytes_got, ends_with, finished, finishes_call, followed_by, makes_call, begins_call, prints, quiet, steps_call, steps_on, stops_with, unless_refused}
use Rattle.step_script.specs.Parts.Players.{Does, HasLoaded, IsAt, IsHeld, IsKnown, IsTaken, got_front}
use Rattle.step_script.specs.Language.Script.{StepCall}
use Rattle.step_script.proofs.Meaning.GotLaws.{got_by_call}
use Rattle.step_script.proofs.Parts.EndPlayerLaws.{has_filled, is_taken}

-- ---- texts

pub text_of_one : (line : TextLine) → text_of (line ∷ []) ≡ line_text line
text_of_one line = append-nil (line_text line)

-- the line of an answer is that of the end of the call
pub text_of_end : (who : Role) (c call : Call) (end : Core × Answer) (result : Answer) (buffer : List ℕ) → call ≡ c → result ≡ end.1 → IsTaken result (side_of end.0 who).trail buffer →
    line_text (line_answered who call result (got_front result buffer)) ≡ text_of (ends_with who c end).lines
text_of_end who c call end result buffer same is taken =
    ap (λ (k : Call). line_text (line_answered who k result (got_front result buffer))) same
    ∙ ap (λ (l : List ℕ). line_text (line_answered who c result l)) taken.front
    ∙ ap (λ (a : Answer). line_text (line_answered who c a (bytes_got a (side_of end.0 who).trail))) is
    ∙ sym (text_of_one (line_answered who c end.1 (bytes_got end.1 (side_of end.0 who).trail)))

-- ---- machines between calls

payload_at_none : (phase : Option Phase) → IsNone phase → ◌≡◌ {A = ℕ} (elim phase [ None ↦ 0 | Some p ↦ payload_at p ]) 0
payload_at_none None is = refl
payload_at_none (Some p) is = absurd (false≢true (sym is))

buffer_at_none : (size : ℕ) (phase : Option Phase) → IsNone phase → ◌≡◌ {A = ℕ} (elim phase [ None ↦ 0 | Some p ↦ buffer_at size p ]) 0
buffer_at_none size None is = refl
buffer_at_none size (Some p) is = absurd (false≢true (sym is))

-- a machine between calls sends and fills nothing
pub out_idle : (m : Machine) → IsIdle m → payload_needed m ≡ 0
out_idle m idle = payload_at_none m.phase idle

pub into_idle : (m : Machine) → IsIdle m → buffer_needed m ≡ 0
into_idle m idle = buffer_at_none (read_size (standing m)) m.phase idle

call_none : (s : Side) (call : Option Begun) (m : Machine) → IsInCall s call m → IsIdle m → call ≡ None
call_none s None m h idle = refl
call_none s (Some b) m h idle = absurd (h.0 idle)

-- an end whose machine is between calls is so too
pub idle_side : (core : Core) (who : Role) (page : Plain) → StandsFor core page → IsIdle (machine_of page who) → (side_of core who).call ≡ None
idle_side core who page h idle = call_none (side_of core who) (side_of core who).call (machine_of page who) (machine_stands core page who h).in_call idle

-- what is kept for an end between calls
pub held_idle : (s : Side) (m : Machine) (end_player : EndPlayer) → IsIdle m → HasLoaded s.trail end_player.buffer.items → IsHeld s m end_player
held_idle s m end_player idle loaded = record {
  call = λ busy. absurd (busy idle);
  payload = λ busy. absurd (busy idle);
  payload_left = omega (arith, out_idle m idle);
  buffer_left = omega (arith, into_idle m idle);
  loaded = loaded;
}

-- ---- one thing after another

pub known_on : (who : Role) (act : Core → Outcome) (page page' : Plain) (end_player end_player' : EndPlayer) (text text' : List ℕ) → Does who act page page' end_player end_player' text text' → IsKnown who page end_player → IsKnown who page' end_player'
known_on who act page page' end_player end_player' text text' d known = ((act known.0).core, d.at known.0 known.1)

pub does_then : (who : Role) (first next : Core → Outcome) (page page' page'' : Plain) (end_player end_player' end_player'' : EndPlayer) (text text' text'' : List ℕ) → Does who first page page' end_player end_player' text text' →
    Does who next page' page'' end_player' end_player'' text' text'' → Does who (λ core. followed_by (first core) next) page page'' end_player end_player'' text text''
does_then who first next page page' page'' end_player end_player' end_player'' text text' text'' d e = record {
  at = λ core h. e.at (first core).core (d.at core h);
  prints = λ core h.
      let behind : Core = (first core).core in
      e.prints behind (d.at core h) ∙ ap (λ (l : List ℕ). l ++ text_of (next behind).lines) (d.prints core h) ∙ append_assoc text (text_of (first core).lines) (text_of (next behind).lines)
      ∙ ap (λ (l : List ℕ). text ++ l) (sym (flat_map-append line_text (first core).lines (next behind).lines));
  other = e.other ∙ d.other;
}

-- nothing is done, and nothing printed
pub does_quiet : (who : Role) (act : Core → Outcome) (page : Plain) (end_player : EndPlayer) (text : List ℕ) → ((core : Core) → StandsFor core page → act core ≡ quiet core) → Does who act page page end_player end_player text text
does_quiet who act page end_player text is = record {
  at = λ core h. subst (λ (o : Outcome). IsAt o.core who page end_player) (sym (is core h.stands)) h;
  prints = λ core h. sym (ap (λ (o : Outcome). text ++ text_of o.lines) (is core h.stands) ∙ append-nil text);
  other = refl;
}

-- one line is printed, and nothing else done
pub does_print : (who : Role) (act : Core → Outcome) (page : Plain) (end_player : EndPlayer) (text text' : List ℕ) (line : TextLine) → ((core : Core) → StandsFor core page → act core ≡ prints core line) →
    text' ≡ text ++ line_text line → Does who act page page end_player end_player text text'
does_print who act page end_player text text' line is printed = record {
  at = λ core h. subst (λ (o : Outcome). IsAt o.core who page end_player) (sym (is core h.stands)) h;
  prints = λ core h. printed ∙ ap (λ (l : List ℕ). text ++ l) (sym (text_of_one line)) ∙ sym (ap (λ (o : Outcome). text ++ text_of o.lines) (is core h.stands));
  other = refl;
}

-- something refuses it
pub does_refused : (who : Role) (why : Core → Option LineRefusal) (act : Core → Outcome) (page : Plain) (end_player : EndPlayer) (text text' : List ℕ) (reason : LineRefusal) → ((core : Core) → StandsFor core page → Some reason ≡ why core) →
    text' ≡ text ++ line_text (refused who reason) → Does who (λ core. unless_refused (why core) who core act) page page end_player end_player text text'
does_refused who why act page end_player text text' reason is printed =
    does_print who (λ core. unless_refused (why core) who core act) page end_player text text' (refused who reason) (λ core stands. ap (λ (r : Option LineRefusal). unless_refused r who core act) (sym (is core stands))) printed

-- nothing refuses it
pub does_allowed : (who : Role) (why : Core → Option LineRefusal) (act : Core → Outcome) (page page' : Plain) (end_player end_player' : EndPlayer) (text text' : List ℕ) → ((core : Core) → StandsFor core page → None ≡ why core) →
    Does who act page page' end_player end_player' text text' → Does who (λ core. unless_refused (why core) who core act) page page' end_player end_player' text text'
does_allowed who why act page page' end_player end_player' text text' is d = record {
  at = λ core h. subst (λ (r : Option LineRefusal). IsAt (unless_refused r who core act).core who page' end_player') (is core h.stands) (d.at core h);
  prints = λ core h. d.prints core h ∙ ap (λ (r : Option LineRefusal). text ++ text_of (unless_refused r who core act).lines) (is core h.stands);
  other = d.other;
}

-- ---- the parts of a call

some_apart : (c : Call) → ◌≡◌ {A = Option Call} None (Some c) → ⊥
some_apart c is = cc

some_inj : (x y : Call) → Some x ≡ Some y → x ≡ y
some_inj x y is = cc

-- what holds of each begun call that is this one, holds of an end that is inside this one
inside : (s : Side) (call : Option Begun) (c : Call) → option_map (λ (b : Begun). b.call) call ≡ Some c → (P : Option Begun → Type 0) → ((b : Begun) → c ≡ b.call → P (Some b)) → P call
inside s None c is P holds = absurd (some_apart c is)
inside s (Some b) c is P holds = holds b (sym (some_inj b.call c is))

-- the rest of a call, with its answer
pub does_finish : (who : Role) (page page' : Plain) (end_player end_player' : EndPlayer) (text text' : List ℕ) (result : Answer) → ¬ IsIdle (machine_of page who)
    → ((core : Core) → IsAt core who page end_player → IsAt (alone core who (plan_left (side_of core who))).0 who page' end_player')
    → ((core : Core) → IsAt core who page end_player → result ≡ (alone core who (plan_left (side_of core who))).1)
    → ((core : Core) → IsAt core who page end_player → IsTaken result (side_of (alone core who (plan_left (side_of core who))).0 who).trail end_player'.buffer.items)
    → other_of page' who ≡ other_of page who → end_player'.call ≡ end_player.call → text' ≡ text ++ line_text (line_answered who end_player'.call result (got_front result end_player'.buffer.items))
    → Does who (finished who) page page' end_player end_player' text text'
does_finish who page page' end_player end_player' text text' result busy at answer taken other same printed = record {
  at = λ core h. inside (side_of core who) (side_of core who).call end_player.call (h.held.call busy) (λ (call : Option Begun). IsAt (finishes_call who call core).core who page' end_player') (λ b is. at core h);
  prints = λ core h.
      inside (side_of core who) (side_of core who).call end_player.call (h.held.call busy) (λ (call : Option Begun). text' ≡ text ++ text_of (finishes_call who call core).lines)
      (λ b is. printed ∙ ap (λ (l : List ℕ). text ++ l) (text_of_end who b.call end_player'.call (alone core who (plan_left (side_of core who))) result end_player'.buffer.items (same ∙ is) (answer core h) (taken core h)));
  other = other;
}

-- some events of a call, with an answer and with none
pub does_stop : (who : Role) (most : ℕ) (page page' : Plain) (end_player end_player' : EndPlayer) (text text' : List ℕ) (result : Answer) → ¬ IsIdle (machine_of page who)
    → ((core : Core) → IsAt core who page end_player → IsAt (stepped most core who).0 who page' end_player')
    → ((core : Core) → IsAt core who page end_player → Some result ≡ (stepped most core who).1)
    → ((core : Core) → IsAt core who page end_player → IsTaken result (side_of (stepped most core who).0 who).trail end_player'.buffer.items)
    → other_of page' who ≡ other_of page who → end_player'.call ≡ end_player.call → text' ≡ text ++ line_text (line_answered who end_player'.call result (got_front result end_player'.buffer.items))
    → Does who (steps_on who most) page page' end_player end_player' text text'
does_stop who most page page' end_player end_player' text text' result busy at answer taken other same printed = record {
  at = λ core h.
      inside (side_of core who) (side_of core who).call end_player.call (h.held.call busy) (λ (call : Option Begun). IsAt (steps_call who most call core).core who page' end_player')
      (λ b is. subst (λ (r : Option Answer). IsAt (stops_with who b.call (stepped most core who).0 r).core who page' end_player') (answer core h) (at core h));
  prints = λ core h.
      inside (side_of core who) (side_of core who).call end_player.call (h.held.call busy) (λ (call : Option Begun). text' ≡ text ++ text_of (steps_call who most call core).lines)
      (λ b is.
      printed ∙ ap (λ (l : List ℕ). text ++ l) (text_of_end who b.call end_player'.call ((stepped most core who).0, result) result end_player'.buffer.items (same ∙ is) refl (taken core h))
      ∙ ap (λ (r : Option Answer). text ++ text_of (stops_with who b.call (stepped most core who).0 r).lines) (answer core h));
  other = other;
}

pub does_steps : (who : Role) (most : ℕ) (page page' : Plain) (end_player end_player' : EndPlayer) (text : List ℕ) → ¬ IsIdle (machine_of page who)
    → ((core : Core) → IsAt core who page end_player → IsAt (stepped most core who).0 who page' end_player')
    → ((core : Core) → IsAt core who page end_player → None ≡ (stepped most core who).1)
    → other_of page' who ≡ other_of page who
    → Does who (steps_on who most) page page' end_player end_player' text text
does_steps who most page page' end_player end_player' text busy at answer other = record {
  at = λ core h.
      inside (side_of core who) (side_of core who).call end_player.call (h.held.call busy) (λ (call : Option Begun). IsAt (steps_call who most call core).core who page' end_player')
      (λ b is. subst (λ (r : Option Answer). IsAt (stops_with who b.call (stepped most core who).0 r).core who page' end_player') (answer core h) (at core h));
  prints = λ core h.
      inside (side_of core who) (side_of core who).call end_player.call (h.held.call busy) (λ (call : Option Begun). text ≡ text ++ text_of (steps_call who most call core).lines)
      (λ b is.
      sym (append-nil text) ∙ ap (λ (r : Option Answer). text ++ text_of (stops_with who b.call (stepped most core who).0 r).lines) (answer core h));
  other = other;
}

-- ---- whole calls

-- a call takes its whole payload
pub whole_payload : (c : StepCall) → length c.payload ≡ payload_of c.call → take (payload_of c.call) c.payload ≡ c.payload
whole_payload c is = subst (λ (n : ℕ). take n c.payload ≡ c.payload) is (take-length c.payload)

pub taken_by_call : (core : Core) (who : Role) (c : Call) (payload old new : List ℕ) (result : Answer) → result ≡ call_answer core who c payload →
    new ≡ filled old (bytes_loaded (side_of (called core who c payload) who).trail) → IsTaken result (side_of (called core who c payload) who).trail new
taken_by_call core who c payload old new result is fills =
    is_taken result (side_of (called core who c payload) who).trail new (has_filled (side_of (called core who c payload) who).trail old new fills) (λ k got. got_by_call core who c payload k (sym is ∙ got))

pub does_call : (who : Role) (c : StepCall) (page page' : Plain) (end_player end_player' : EndPlayer) (old text text' : List ℕ) (result : Answer) → length c.payload ≡ payload_of c.call
    → ((core : Core) → StandsFor core page → StandsFor (called core who c.call (take (payload_of c.call) c.payload)) page')
    → ((core : Core) → StandsFor core page → result ≡ call_answer core who c.call (take (payload_of c.call) c.payload))
    → ((core : Core) → StandsFor core page → end_player'.buffer.items ≡ filled old (bytes_loaded (side_of (called core who c.call (take (payload_of c.call) c.payload)) who).trail))
    → IsIdle (machine_of page' who) → other_of page' who ≡ other_of page who
    → text' ≡ text ++ line_text (line_answered who c.call result (got_front result end_player'.buffer.items))
    → Does who (makes_call who c) page page' end_player end_player' text text'
does_call who c page page' end_player end_player' old text text' result fits stands answer fills idle other printed = record {
  at = λ core h.
      subst (λ (l : List ℕ). IsAt (called core who c.call l) who page' end_player') (whole_payload c fits)
      (record {
        stands = stands core h.stands;
        held = held_idle (side_of (called core who c.call (take (payload_of c.call) c.payload)) who) (machine_of page' who) end_player' idle
            (has_filled (side_of (called core who c.call (take (payload_of c.call) c.payload)) who).trail old end_player'.buffer.items (fills core h.stands));
      });
  prints = λ core h.
      printed
      ∙ ap (λ (l : List ℕ). text ++ l)
      (text_of_end who c.call c.call (whole_call core who c.call (take (payload_of c.call) c.payload)) result end_player'.buffer.items refl (answer core h.stands)
      (taken_by_call core who c.call (take (payload_of c.call) c.payload) old end_player'.buffer.items result (answer core h.stands) (fills core h.stands)))
      ∙ ap (λ (l : List ℕ). text ++ text_of (ends_with who c.call (whole_call core who c.call l)).lines) (whole_payload c fits);
  other = other;
}

-- the begin of a call
pub does_begin : (who : Role) (c : StepCall) (page page' : Plain) (end_player end_player' : EndPlayer) (text : List ℕ) → length c.payload ≡ payload_of c.call
    → ((core : Core) (payload : List ℕ) → StandsFor core page → length payload ≡ payload_of c.call → StandsFor (begun core who c.call payload) page')
    → payload_needed (machine_of page' who) ≤ length end_player'.payload.items → buffer_needed (machine_of page' who) ≤ length end_player'.buffer.items
    → end_player'.call ≡ c.call → end_player'.payload.items ≡ c.payload → other_of page' who ≡ other_of page who
    → Does who (begins_call who c) page page' end_player end_player' text text
does_begin who c page page' end_player end_player' text fits stands out into call payload other = record {
  at = λ core h. record {
    stands = stands core c.payload h.stands fits;
    held = subst (λ (s : Side). IsHeld s (machine_of page' who) end_player') (sym (side_of_with_side core who _)) (record {
      call = λ busy. ap (λ (k : Call). Some k) (sym call);
      payload = λ busy. sym payload;
      payload_left = out;
      buffer_left = into;
      loaded = refl;
    });
  };
  prints = λ core h. sym (append-nil text);
  other = other;
}

pub on_ok_from : {T E P : Type 0} (r : Result T E) → P → OnOk r P
on_ok_from (Ok x) p = p
on_ok_from (Err e) p = tt

pub on_ok_map : {T E P Q : Type 0} (r : Result T E) → OnOk r P → (P → Q) → OnOk r Q
on_ok_map (Ok x) p f = f p
on_ok_map (Err e) p f = tt
