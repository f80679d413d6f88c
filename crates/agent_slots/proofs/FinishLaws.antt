-- All ends while they are retired one after another, and what they report.
use Rattle.std.proofs.Common.{◌≡◌, ◌≢◌, ℕ, ◌+◌, ◌≤◌, zero, suc, List, [], ◌∷◌, ◌++◌, map, take, refl, ap, sym, ◌∙◌, arith, append_assoc, subst, Option, Some, None, inr}
use Rattle.std.specs.Prelude.{Bool, false, slice_get, option_map, option_and_then, IsSome}
use Rattle.std.proofs.lemmas.List.{map-append, map_more}
use Rattle.std.proofs.lemmas.Option.{get_or_from_slice_get, slice_get_within}
use Rattle.std.specs.List.{AllByRecursion as Each, AllZip as EachPair}
use Rattle.list_laws.proofs.Each.{each_push, some_get}
use Rattle.end_view.specs.EndView.{EndView}
use Rattle.service_gate.specs.declared.builtin.Builtin.{Builtin}
use Rattle.task_duties.specs.declared.place.PagePlace.{PagePlace}
use Rattle.task_duties.specs.declared.place.PagePlace.TheVariants.{Payload}
use Rattle.task_duties.specs.declared.done.ServedDone.{ServedDone}
use Rattle.task_duties.specs.declared.ends.RetiredEnd.{RetiredEnd}
use Rattle.task_duties.specs.TaskOwes.{EndAt}
use Rattle.task_duties.specs.GivenEnds.{all_retired, retired_at}
use Rattle.agent_slots.specs.declared.slot.Slot.{Slot}
use Rattle.agent_slots.specs.declared.done.CallOver.{CallOver}
use Rattle.agent_slots.specs.declared.note.CallNote.{CallNote}
use Rattle.agent_slots.specs.declared.note.ServedNote.{ServedNote}
use Rattle.agent_slots.specs.declared.done.SessionDone.{SessionDone}
use Rattle.agent_slots.specs.declared.done.SessionDone.TheVariants.{Nothing, Call, Serving}
use Rattle.agent_slots.specs.Slots.{Held, held_at, SlotsState}
use Rattle.agent_slots.specs.declared.ends.Ends.{Ends}
use Rattle.agent_slots.specs.Done.{AreBack, ReportsCalled, ReportsServes}
use Rattle.agent_slots.specs.Reports.{call_in, served_in}
use Rattle.agent_slots.specs.Stages.{Use, ForCall, ForServing, Frame, place_of, frame_of, use_of, is_session, CanRetire, IsStage, IsReportOf}
use Rattle.agent_slots.specs.Whole.{frames, held_in, called_of, serves_of, IsUsedAt, HaveEnds, IsWhole, state_of}
use Rattle.agent_slots.specs.Finished.{AreReported, AreFinished, AreCalls, AreServings, KeepsServings, HasCall, IsElsewhere, KeepsOthers, call_at, served_at}

pub append-nil : {A : Type 0} (xs : List A) → xs ++ [] ≡ xs
append-nil [] = refl
append-nil (x ∷ xs) = ap (λ ys. x ∷ ys) (append-nil xs)

-- ---- ends that are retired one after another

-- these ends are retired, and the rest can be
pub record Retires (slots rest : List Slot) (done : List EndAt) : Type 0 where
  pub can : Each (λ s. CanRetire s.stage) rest
  pub held : map held_at done ++ held_in rest ≡ held_in slots
  pub honest : Each (λ e. e.view.turned ≡ false) done

retires_more : (slots rest : List Slot) (slot : Slot) (done : List EndAt) (e : EndAt) → held_at e ≡ (frame_of slot).held → e.view.turned ≡ false → Retires slots (slot ∷ rest) done → Retires slots rest (done ++ e ∷ [])
retires_more slots rest slot done e held honest h = record {
  can = h.can.1;
  held = ap (λ hs. hs ++ held_in rest) (map-append held_at done (e ∷ [])) ∙ (append_assoc (map held_at done) (held_at e ∷ []) (held_in rest) ∙ (ap (λ k. map held_at done ++ k ∷ held_in rest) held ∙ h.held));
  honest = each_push (λ (x : EndAt). x.view.turned ≡ false) done e h.honest honest;
}

-- they lie in a list behind the first
pub record AreRetiring (first : EndAt) (slots rest : List Slot) (retired : List EndAt) : Type 0 where
  pub done : List EndAt
  pub are : retired ≡ first ∷ done
  pub retires : Retires slots rest done

pub one_more : (first : EndAt) (slots rest : List Slot) (slot : Slot) (retired : List EndAt) (e : EndAt) → held_at e ≡ (frame_of slot).held → e.view.turned ≡ false
    → AreRetiring first slots (slot ∷ rest) retired → AreRetiring first slots rest (retired ++ e ∷ [])
one_more first slots rest slot retired e held honest h = record {
  done = h.done ++ e ∷ [];
  are = ap (λ es. es ++ e ∷ []) h.are;
  retires = retires_more slots rest slot h.done e held honest h.retires;
}

all_back : (first : EndAt) (slots : List Slot) (done ends : List EndAt) → ends ≡ first ∷ done → Retires slots [] done → AreBack first (held_in slots) ends
all_back first slots done ends are h = record { rest = done; are = are; held_are = sym (append-nil (map held_at done)) ∙ h.held; honest = h.honest }

pub retired_back : (first : EndAt) (slots : List Slot) (retired : List EndAt) → AreRetiring first slots [] retired → AreBack first (held_in slots) retired
retired_back first slots retired h = all_back first slots h.done retired h.are h.retires

-- what is reported of the rest is reported of all
abbrev ReportsOn : ℕ → List Slot → List Slot → List EndAt → List SessionDone → Type 0
ReportsOn version slots rest done reports =
    (ends : List EndAt) (more : List SessionDone) → AreReported version (frames rest) ends more → AreReported version (frames slots) (done ++ ends) (reports ++ more)

report_more : (version : ℕ) (slots rest : List Slot) (slot : Slot) (done : List EndAt) (reports : List SessionDone) (e : EndAt) (r : SessionDone) → held_at e ≡ (frame_of slot).held
    → IsReportOf version (place_of slot) (use_of slot.stage) e.view r → ReportsOn version slots (slot ∷ rest) done reports → ReportsOn version slots rest (done ++ e ∷ []) (reports ++ r ∷ [])
report_more version slots rest slot done reports e r held is h ends more rest_is =
    let one = h (e ∷ ends) (r ∷ more) (held, is, rest_is) in
    subst (λ es. AreReported version (frames slots) es ((reports ++ r ∷ []) ++ more)) (sym (append_assoc done (e ∷ []) ends))
    (subst (λ rs. AreReported version (frames slots) (done ++ e ∷ ends) rs) (sym (append_assoc reports (r ∷ []) more)) one)

report_all : (version : ℕ) (slots : List Slot) (done : List EndAt) (reports : List SessionDone) → ReportsOn version slots [] done reports → AreReported version (frames slots) done reports
report_all version slots done reports h =
    subst (λ es. AreReported version (frames slots) es reports) (append-nil done) (subst (λ rs. AreReported version (frames slots) (done ++ []) rs) (append-nil reports) (h [] [] tt))

-- some are retired and reported, and the rest has no open session
pub record AreReporting (first : EndAt) (slots rest : List Slot) (retired : List EndAt) (reports : List SessionDone) : Type 0 where
  pub done : List EndAt
  pub are : retired ≡ first ∷ done
  pub retires : Retires slots rest done
  pub closed : Each (λ s. is_session s.stage ≡ false) rest
  pub reported : (version : ℕ) → Each (λ s. IsStage version s.stage) slots → Each (λ s. IsStage version s.stage) rest × ReportsOn version slots rest done reports

pub one_reported : (first : EndAt) (slots rest : List Slot) (slot : Slot) (retired : List EndAt) (reports : List SessionDone) (e : EndAt) (r : SessionDone) → held_at e ≡ (frame_of slot).held → e.view.turned ≡ false
    → ((version : ℕ) → IsStage version slot.stage → IsReportOf version (place_of slot) (use_of slot.stage) e.view r)
    → AreReporting first slots (slot ∷ rest) retired reports → AreReporting first slots rest (retired ++ e ∷ []) (reports ++ r ∷ [])
one_reported first slots rest slot retired reports e r held honest is h = record {
  done = h.done ++ e ∷ [];
  are = ap (λ es. es ++ e ∷ []) h.are;
  retires = retires_more slots rest slot h.done e held honest h.retires;
  closed = h.closed.1;
  reported = λ version each. (let known = h.reported version each in (known.0.1, report_more version slots rest slot h.done reports e r held (is version known.0.0) known.1));
}

pub all_reported : (first : EndAt) (slots : List Slot) (retired : List EndAt) (reports : List SessionDone) → AreReporting first slots [] retired reports → AreFinished first slots retired reports
unfolding all_back
all_reported first slots retired reports h = record {
  back = all_back first slots h.done retired h.are h.retires;
  reported = λ version each. report_all version slots h.done reports (h.reported version each).1;
}

-- a list of retired ends with one more
pub retired_more : (retired new : List RetiredEnd) (x : RetiredEnd) → new ≡ retired ++ x ∷ [] → all_retired new ≡ all_retired retired ++ retired_at x ∷ []
retired_more retired new x is = ap all_retired is ∙ map-append retired_at retired (x ∷ [])

-- ---- reports by their numbers

-- what is reported of the end with this number
record At (version : ℕ) (place : PagePlace) (used : Use) (at : ℕ) (ends : List EndAt) (reports : List SessionDone) : Type 0 where
  pub end : EndAt
  pub report : SessionDone
  pub end_is : slice_get ends at ≡ Some end
  pub lies : end.place ≡ place
  pub report_is : slice_get reports at ≡ Some report
  pub is : IsReportOf version place used end.view report

reported_at : (version : ℕ) (fs : List Frame) (ends : List EndAt) (reports : List SessionDone) (at : ℕ) (here : Frame) → AreReported version fs ends reports
    → slice_get fs at ≡ Some here → At version here.held.place here.used at ends reports
reported_at version [] ends reports at here h is = cc
reported_at version (f ∷ fs) [] reports at here h is = absurd h
reported_at version (f ∷ fs) (e ∷ ends) [] at here h is = absurd h
reported_at version (f ∷ fs) (e ∷ ends) (r ∷ reports) zero here h is =
    let same : f ≡ here = cc in
    record {
      end = e;
      report = r;
      end_is = refl;
      lies = ap (λ (k : Held). k.place) (h.0 ∙ ap (λ (g : Frame). g.held) same);
      report_is = refl;
      is = subst (λ (g : Frame). IsReportOf version g.held.place g.used e.view r) same h.1;
    }
reported_at version (f ∷ fs) (e ∷ ends) (r ∷ reports) (suc at) here h is =
    let a = reported_at version fs ends reports at here h.2 is in
    record { end = a.end; report = a.report; end_is = a.end_is; lies = a.lies; report_is = a.report_is; is = a.is }

used_at : (version : ℕ) (fs : List Frame) (ends : List EndAt) (reports : List SessionDone) (at : ℕ) (place : PagePlace) (used : Use) → AreReported version fs ends reports → IsUsedAt fs at place used
    → At version place used at ends reports
used_at version fs ends reports at place used h u = subst (λ p. At version p used at ends reports) u.lies (reported_at version fs ends reports at (record { held = u.held; used = used; late = u.late }) h u.is)

call_report : (version from to port number : ℕ) (input : List ℕ) (end : EndView) (r : SessionDone) → IsReportOf version (Payload from to port) (ForCall number input) end r → (over : CallOver) × (r ≡ Call number over)
call_report version from to port number input end (Call n over) h = (over, ap (λ k. Call k over) h.0)
call_report version from to port number input end (Serving n done) h = absurd h
call_report version from to port number input end Nothing h = absurd h

serving_report : (version from to port number : ℕ) (service : Builtin) (end : EndView) (r : SessionDone) → IsReportOf version (Payload from to port) (ForServing number service) end r
    → (done : ServedDone) × (r ≡ Serving number done)
serving_report version from to port number service end (Serving n done) h = (done, ap (λ k. Serving k done) h.0)
serving_report version from to port number service end (Call n over) h = absurd h
serving_report version from to port number service end Nothing h = absurd h

pub are_calls : (version domain : ℕ) (fs : List Frame) (ends : List EndAt) (reports : List SessionDone) (calls : List (Option CallNote)) (served : List ServedNote) → AreReported version fs ends reports
    → HaveEnds domain fs calls served → AreCalls reports calls
are_calls version domain fs ends reports calls served h have number n is =
    let a = used_at version fs ends reports n.at (Payload domain n.to n.port) (ForCall number n.input.value.items) h (have.called number n is) in
    let r = call_report version domain n.to n.port number n.input.value.items a.end.view a.report a.is in
    (r.0, a.report_is ∙ ap Some r.1)

pub are_servings : (version domain : ℕ) (fs : List Frame) (ends : List EndAt) (reports : List SessionDone) (calls : List (Option CallNote)) (served : List ServedNote) → AreReported version fs ends reports
    → HaveEnds domain fs calls served → AreServings reports served
are_servings version domain fs ends reports calls served h have number n is =
    let a = used_at version fs ends reports n.at (Payload n.from domain n.port) (ForServing number n.service.value) h (have.serving number n is) in
    let r = serving_report version n.from domain n.port number n.service.value a.end.view a.report a.is in
    (r.0, a.report_is ∙ ap Some r.1)

-- ---- what contracts promise of them

pairs : {A B C : Type 0} (R : B → C → Type 0) (f : A → B) (g : A → C) (xs : List A) → ((m : ℕ) (x : A) → slice_get xs m ≡ Some x → R (f x) (g x)) → EachPair R (map f xs) (map g xs)
pairs R f g [] h = tt
pairs R f g (x ∷ xs) h = (h 0 x refl, pairs R f g xs (λ m. h (suc m)))

pub reports_called : (version domain : ℕ) (fs : List Frame) (first : EndAt) (ends : List EndAt) (reports : List SessionDone) (calls : List (Option CallNote)) (served : List ServedNote) → AreReported version fs ends reports
    → HaveEnds domain fs calls served → EachPair (ReportsCalled domain version (first ∷ ends)) (map (option_map called_of) calls) (map (call_at reports) calls)
reports_called version domain fs first ends reports calls served h have = pairs (ReportsCalled domain version (first ∷ ends)) (option_map called_of) (call_at reports) calls each
  where
    reports_of : (number : ℕ) (n : CallNote) (end : EndAt) (r : SessionDone) → slice_get ends n.at ≡ Some end → end.place ≡ Payload domain n.to n.port
        → IsReportOf version (Payload domain n.to n.port) (ForCall number n.input.value.items) end.view r → ReportsCalled domain version (first ∷ ends) (Some (called_of n)) (call_in r)
    reports_of number n end (Call k over) here lies is = (is.1, is.2, inr (some_get _ ends n.at end here (lies, is.3)))
    reports_of number n end (Serving k done) here lies is = absurd is
    reports_of number n end Nothing here lies is = absurd is

    each : (m : ℕ) (o : Option CallNote) → slice_get calls m ≡ Some o → ReportsCalled domain version (first ∷ ends) (option_map called_of o) (call_at reports o)
    each m None is = tt
    each m (Some n) is =
        let a = used_at version fs ends reports n.at (Payload domain n.to n.port) (ForCall m n.input.value.items) h (have.called m n is) in
        subst (λ o. ReportsCalled domain version (first ∷ ends) (Some (called_of n)) o) (sym (ap (option_and_then call_in) a.report_is)) (reports_of m n a.end a.report a.end_is a.lies a.is)

-- a list of answers that exist
some_pairs : {A B C : Type 0} (R : B → C → Type 0) (f : A → B) (g : A → Option C) (xs : List A) (ys : List C) → map Some ys ≡ map g xs
    → ((m : ℕ) (x : A) → slice_get xs m ≡ Some x → (y : C) × (g x ≡ Some y) × R (f x) y) → EachPair R (map f xs) ys
some_pairs R f g [] [] same h = tt
some_pairs R f g [] (y ∷ ys) same h = cc
some_pairs R f g (x ∷ xs) [] same h = cc
some_pairs {A} {B} {C} R f g (x ∷ xs) (y ∷ ys) same h =
    let a = h 0 x refl in
    let k : Some y ≡ g x = cc in
    let k' : Some y ≡ Some a.0 = k ∙ a.1 in
    let e : a.0 ≡ y = cc in
    let more : map Some ys ≡ map g xs = cc in
    (subst (λ (z : C). R (f x) z) e a.2, some_pairs R f g xs ys more (λ m. h (suc m)))

pub reports_serves : (version domain : ℕ) (fs : List Frame) (first : EndAt) (ends : List EndAt) (reports : List SessionDone) (calls : List (Option CallNote)) (served : List ServedNote) (done : List ServedDone)
    → AreReported version fs ends reports → HaveEnds domain fs calls served → map Some done ≡ map (served_at reports) served → EachPair (ReportsServes domain version (first ∷ ends)) (map serves_of served) done
reports_serves version domain fs first ends reports calls served done h have same = some_pairs (ReportsServes domain version (first ∷ ends)) serves_of (served_at reports) served done same each
  where
    reports_of : (m : ℕ) (n : ServedNote) (end : EndAt) (r : SessionDone) → slice_get ends n.at ≡ Some end → end.place ≡ Payload n.from domain n.port → slice_get reports n.at ≡ Some r
        → IsReportOf version (Payload n.from domain n.port) (ForServing m n.service.value) end.view r → (d : ServedDone) × (served_at reports n ≡ Some d) × ReportsServes domain version (first ∷ ends) (serves_of n) d
    reports_of m n end (Serving k d) here lies at is = (d, ap (option_and_then served_in) at, (is.1, is.2, inr (some_get _ ends n.at end here (lies, is.3))))
    reports_of m n end (Call k over) here lies at is = absurd is
    reports_of m n end Nothing here lies at is = absurd is

    each : (m : ℕ) (n : ServedNote) → slice_get served m ≡ Some n → (d : ServedDone) × (served_at reports n ≡ Some d) × ReportsServes domain version (first ∷ ends) (serves_of n) d
    each m n is =
        let u = used_at version fs ends reports n.at (Payload n.from domain n.port) (ForServing m n.service.value) h (have.serving m n is) in
        reports_of m n u.end u.report u.end_is u.lies u.report_is u.is

-- the reports as contracts promise them, of ends that come back
pub all_called : (e : Ends) (seen : SlotsState) (spent : Bool) (first : EndAt) (ends : List EndAt) (reports : List SessionDone) (done : List (Option CallOver)) → state_of e spent ≡ seen → IsWhole e
    → AreFinished first e.slots.items ends reports → done ≡ map (call_at reports) e.calls.items → EachPair (ReportsCalled seen.domain seen.version ends) seen.called done
all_called e seen spent first ends reports done is whole all done_are =
    subst (λ (s : SlotsState). EachPair (ReportsCalled s.domain s.version ends) s.called done) is
    (subst (λ es. EachPair (ReportsCalled e.domain e.version es) (map (option_map called_of) e.calls.items) done) (sym all.back.are)
    (subst (λ ds. EachPair (ReportsCalled e.domain e.version (first ∷ all.back.rest)) (map (option_map called_of) e.calls.items) ds) (sym done_are)
    (reports_called e.version e.domain (frames e.slots.items) first all.back.rest reports e.calls.items e.served.items (all.reported e.version whole.stages) whole.have_ends)))

pub all_served : (e : Ends) (seen : SlotsState) (spent : Bool) (first : EndAt) (ends : List EndAt) (reports : List SessionDone) (done : List ServedDone) → state_of e spent ≡ seen → IsWhole e
    → AreFinished first e.slots.items ends reports → map Some done ≡ map (served_at reports) e.served.items → EachPair (ReportsServes seen.domain seen.version ends) seen.served done
all_served e seen spent first ends reports done is whole all done_are =
    subst (λ (s : SlotsState). EachPair (ReportsServes s.domain s.version ends) s.served done) is
    (subst (λ es. EachPair (ReportsServes e.domain e.version es) (map serves_of e.served.items) done) (sym all.back.are)
    (reports_serves e.version e.domain (frames e.slots.items) first all.back.rest reports e.calls.items e.served.items done (all.reported e.version whole.stages) whole.have_ends done_are))

-- ---- reports that are taken out one after another

-- what came of one note more
pub one_told : {N A : Type 0} (f : N → A) (notes : List N) (k : ℕ) (n : N) (done new : List A) (told : A) → slice_get notes k ≡ Some n → done ≡ map f (take k notes) → new ≡ done ++ told ∷ [] → told ≡ f n → new ≡ map f (take (k + 1) notes)
one_told f notes k n done new told here before more is =
    more ∙ (ap (λ ds. ds ++ told ∷ []) before ∙ (ap (λ a. map f (take k notes) ++ a ∷ []) (is ∙ ap f (sym (get_or_from_slice_get notes k n n here))) ∙ sym (map_more f notes k n (slice_get_within notes k n here))))

call_number : (a b : CallOver) (m k : ℕ) → Call m a ≡ Call k b → m ≡ k
call_number a b m k e = cc

pub later_calls : (first now next : List SessionDone) (calls : List (Option CallNote)) (k : ℕ) (o : Option CallNote) → AreCalls first calls → slice_get calls k ≡ Some o
    → ((m : ℕ) (n : CallNote) → k ≤ m → slice_get calls m ≡ Some (Some n) → slice_get now n.at ≡ slice_get first n.at) → KeepsOthers o now next
    → (m : ℕ) (n : CallNote) → k + 1 ≤ m → slice_get calls m ≡ Some (Some n) → slice_get next n.at ≡ slice_get first n.at
later_calls first now next calls k o are here later keeps m n less is = keeps n.at (elsewhere o here) ∙ later m n (omega (arith, less)) is
  where
    elsewhere : (o : Option CallNote) → slice_get calls k ≡ Some o → IsElsewhere o n.at
    elsewhere None here = tt
    elsewhere (Some q) here = λ same.
        let a = are m n is in
        let b = are k q here in
        let e : Some (Call m a.0) ≡ Some (Call k b.0) = sym a.1 ∙ (ap (slice_get first) same ∙ b.1) in
        let e' : Call m a.0 ≡ Call k b.0 = cc in
        let e'' : m ≡ k = call_number a.0 b.0 m k e' in
        omega (arith, less, e'')

pub other_servings : (first now next : List SessionDone) (calls : List (Option CallNote)) (k : ℕ) (o : Option CallNote) → AreCalls first calls → slice_get calls k ≡ Some o → KeepsServings first now → KeepsOthers o now next
    → KeepsServings first next
other_servings first now next calls k o are here kept keeps at number done is = keeps at (elsewhere o here) ∙ kept at number done is
  where
    bad : (m n : ℕ) (a : CallOver) (d : ServedDone) → ◌≡◌ {A = Option SessionDone} (Some (Call m a)) (Some (Serving n d)) → ⊥
    bad m n a d e = cc

    elsewhere : (o : Option CallNote) → slice_get calls k ≡ Some o → IsElsewhere o at
    elsewhere None here = tt
    elsewhere (Some q) here = λ same. let b = are k q here in bad k number b.0 done (sym b.1 ∙ (ap (slice_get first) (sym same) ∙ is))

pub same_call : (first now : List SessionDone) (calls : List (Option CallNote)) (k : ℕ) (o : Option CallNote) → slice_get calls k ≡ Some o
    → ((m : ℕ) (n : CallNote) → k ≤ m → slice_get calls m ≡ Some (Some n) → slice_get now n.at ≡ slice_get first n.at) → call_at now o ≡ call_at first o
same_call first now calls k None here later = refl
same_call first now calls k (Some q) here later = ap (option_and_then call_in) (later k q (omega arith) here)

pub has_call : (first now : List SessionDone) (calls : List (Option CallNote)) (k : ℕ) (o : Option CallNote) → AreCalls first calls → slice_get calls k ≡ Some o
    → ((m : ℕ) (n : CallNote) → k ≤ m → slice_get calls m ≡ Some (Some n) → slice_get now n.at ≡ slice_get first n.at) → HasCall now o
has_call first now calls k None are here later = tt
has_call first now calls k (Some q) are here later =
    let a = are k q here in
    let e = later k q (omega arith) here ∙ a.1 in
    subst (λ (x : Option SessionDone). IsSome (option_and_then call_in x)) (sym e) refl

serving_number : (a b : ServedDone) (m k : ℕ) → Serving m a ≡ Serving k b → m ≡ k
serving_number a b m k e = cc

pub later_servings : (first now next : List SessionDone) (served : List ServedNote) (k : ℕ) (q : ServedNote) → AreServings first served → slice_get served k ≡ Some q
    → ((m : ℕ) (n : ServedNote) → k ≤ m → slice_get served m ≡ Some n → slice_get now n.at ≡ slice_get first n.at) → ((at : ℕ) → at ≢ q.at → slice_get next at ≡ slice_get now at)
    → (m : ℕ) (n : ServedNote) → k + 1 ≤ m → slice_get served m ≡ Some n → slice_get next n.at ≡ slice_get first n.at
later_servings first now next served k q are here later keeps m n less is = keeps n.at apart ∙ later m n (omega (arith, less)) is
  where
    apart : n.at ≢ q.at
    apart same =
        let a = are m n is in
        let b = are k q here in
        let e : Some (Serving m a.0) ≡ Some (Serving k b.0) = sym a.1 ∙ (ap (slice_get first) same ∙ b.1) in
        let e' : Serving m a.0 ≡ Serving k b.0 = cc in
        let e'' : m ≡ k = serving_number a.0 b.0 m k e' in
        omega (arith, less, e'')

pub same_serving : (first now : List SessionDone) (served : List ServedNote) (k : ℕ) (q : ServedNote) → slice_get served k ≡ Some q
    → ((m : ℕ) (n : ServedNote) → k ≤ m → slice_get served m ≡ Some n → slice_get now n.at ≡ slice_get first n.at) → served_at now q ≡ served_at first q
same_serving first now served k q here later = ap (option_and_then served_in) (later k q (omega arith) here)

pub has_serving : (first now : List SessionDone) (served : List ServedNote) (k : ℕ) (q : ServedNote) → AreServings first served → slice_get served k ≡ Some q
    → ((m : ℕ) (n : ServedNote) → k ≤ m → slice_get served m ≡ Some n → slice_get now n.at ≡ slice_get first n.at) → IsSome (served_at now q)
has_serving first now served k q are here later =
    let a = are k q here in
    let e = later k q (omega arith) here ∙ a.1 in
    subst (λ (x : Option SessionDone). IsSome (option_and_then served_in x)) (sym e) refl

pub served_same : (old new : List SessionDone) (served : List ServedNote) → KeepsServings old new → AreServings old served → map (served_at new) served ≡ map (served_at old) served
served_same old new served keeps are = mapped served (λ m n is. same n (are m n is))
  where
    same : (n : ServedNote) → {number : ℕ} → (done : ServedDone) × (slice_get old n.at ≡ Some (Serving number done)) → served_at new n ≡ served_at old n
    same n {number} a = ap (option_and_then served_in) (keeps n.at number a.0 a.1 ∙ sym a.1)

    mapped : (ns : List ServedNote) → ((m : ℕ) (n : ServedNote) → slice_get ns m ≡ Some n → served_at new n ≡ served_at old n) → map (served_at new) ns ≡ map (served_at old) ns
    mapped [] h = refl
    mapped (n ∷ ns) h = let first = h 0 n refl in let more = mapped ns (λ m. h (suc m)) in rw (first, more) refl
