-- An epoch, from what its two tasks hand back to what its client is answered.
use Rattle.std.proofs.Common.{◌≡◌, ℕ, ◌+◌, zero, suc, ◌≤◌, List, [], ◌∷◌, ◌++◌, append_assoc, true, false, Option, Some, None, slice_get, refl, sym, ap, subst, ◌∙◌, arith}
use Rattle.std.specs.Prelude.{ℤ, pos, option_map}
use Rattle.std.specs.Int.{w32}
use Rattle.std.specs.Int.RustNames.{FitsSigned}
use Rattle.std.specs.List.{AllZip}
use Rattle.std.proofs.lemmas.List.{append-nil}
use Rattle.std.proofs.lemmas.Int.{fits_signed_from_abs}
use Rattle.atomic_table.specs.Seated.{TableId}
use Rattle.vchan_rule.specs.Seated.{PageStart, PageView, last_view, words_of, IsSettledBy}
use Rattle.end_view.specs.EndView.{EndView}
use Rattle.end_view.specs.Settled.{Settled, IsHonestPage}
use Rattle.service_gate.specs.Triple.{Triple}
use Rattle.service_gate.specs.ServiceResult.{service as service_of}
use Rattle.service_gate.specs.Owing.{builtin_owes}
use Rattle.service_gate.specs.declared.builtin.Builtin.{Builtin}
use Rattle.service_gate.proofs.EveryService.{small_codes}
use Rattle.qrexec_data.specs.declared.outcome.Outcome.{Outcome}
use Rattle.qrexec_data.specs.declared.outcome.Outcome.TheVariants.{Done}
use Rattle.qrexec_data.specs.Seeing.{Exited, caller_sees, serving_sees}
use Rattle.qrexec_data.specs.Fitting.{FitsCaller}
use Rattle.channel_session.specs.declared.caller.CallerEnd.{CallerEnd}
use Rattle.channel_session.specs.declared.serving.ServingEnd.{ServingEnd}
use Rattle.task_duties.specs.declared.done.CallerDone.{CallerDone}
use Rattle.task_duties.specs.Agent.Sessions.{CallerOwes, IsService}
use Rattle.task_duties.proofs.PageLaw.{IsCallDone, outcome_done}
use Rattle.vchan_persist.specs.declared.client.Client.{Client}
use Rattle.vchan_persist.specs.declared.client.Client.TheVariants.{Call, Hostile}
use Rattle.vchan_persist.specs.declared.epoch.EpochResult.{EpochResult}
use Rattle.vchan_persist.specs.declared.epoch.EpochResult.TheVariants as result
use Rattle.vchan_persist.specs.declared.epoch.EpochDone.{EpochDone}
use Rattle.vchan_persist.specs.declared.task.EpochTask.{EpochTask}
use Rattle.vchan_persist.specs.declared.task.SideDone.{SideDone}
use Rattle.vchan_persist.specs.declared.task.SideDone.TheVariants.{Called}
use Rattle.vchan_persist.specs.Epochs.{AreAnsweredAlike, AreEpochs, EpochsApart, IsAnswered, IsEpoch, answer_of, answered}
use Rattle.vchan_persist.specs.Owes.{AreHandedBack, AreSides, CallerHands, ClientHands, ScribblerHands, ServerHands, HasCalled, HasServed, epoch_owes}
use Rattle.vchan_persist.specs.Settling.{ComesTo}

-- ---- two tasks, and what they hand back

pub handed_back : (page : TableId) (client : Client) (service : Builtin) (tasks : List EpochTask) (dones : List SideDone) → AreSides page client service tasks → AllZip epoch_owes tasks dones → AreHandedBack page client service dones
handed_back page client service (one ∷ other ∷ []) [] sides paid = absurd paid
handed_back page client service (one ∷ other ∷ []) (first ∷ []) sides paid = absurd paid.1
handed_back page client service (one ∷ other ∷ []) (first ∷ second ∷ []) sides paid = (sides.0 first paid.0, sides.1 second paid.1.0)
handed_back page client service (one ∷ other ∷ []) (first ∷ second ∷ more ∷ dones) sides paid = absurd paid.1.1
handed_back page client service _ dones sides paid = absurd sides

-- ---- a call

small_code : (name input : List ℕ) (t : Triple) → service_of name input ≡ Some t → FitsSigned w32 t.code
small_code name input t is = let code = small_codes name input t is in rw code.2 (fits code.0 code.1)
  where
    fits : (n : ℕ) → n ≤ 255 → FitsSigned w32 (pos n)
    fits n small = fits_signed_from_abs w32 (pos n) (omega (arith, small))

-- the same page, its two ends exchanged
exchanged : (server client : EndView) → IsHonestPage server client → IsHonestPage client server
exchanged server client h = record { left = h.right; right = h.left; not_both = λ one other. h.not_both other one; server_found = h.client_found; client_found = h.server_found }

-- what the name's service gives for the input, and that the call came to this
pub record IsServed (name stdin : List ℕ) (done : CallerDone) (serving : EndView) : Type 0 where
  pub owed : List ℕ → Triple
  pub is_service : IsService name owed
  pub call_done : IsCallDone owed stdin done serving

pub served : (name stdin : List ℕ) (service : Builtin) (page : PageView) (caller : CallerEnd) (serving : ServingEnd) (s : Settled) → IsService name (builtin_owes service) → HasCalled page.table stdin caller → HasServed page.table service serving
    → IsSettledBy page serving.retired caller.retired s → IsServed name stdin caller.done (last_view serving.retired)
served name stdin service page caller serving s named called served_end by =
    let sv = last_view serving.retired in
    let cv = last_view caller.retired in
    let owes = served_end.owes name named in
    let server_honest = ap (λ (e : EndView). e.turned) by.server_is ∙ served_end.honest in
    let client_honest = ap (λ (e : EndView). e.turned) by.client_is ∙ called.honest in
    let honest : IsHonestPage s.server s.client = by.settled.honest server_honest client_honest in
    let honest' : IsHonestPage sv cv = subst (λ (e : EndView). IsHonestPage e cv) by.server_is (subst (λ (e : EndView). IsHonestPage s.server e) by.client_is honest) in
    record {
      owed = owes.owed;
      is_service = owes.is_service;
      call_done = outcome_done 3 3 name stdin caller.done serving.outcome serving.got cv sv (record { least = omega arith; small = omega arith }) (record { least = omega arith; small = omega arith }) (exchanged sv cv honest') called.owes owes
          (λ x. small_code name x (owes.owed x) (owes.is_service x));
    }

-- such a call has an exit code
pub no_other : (name stdin : List ℕ) (done : CallerDone) (serving : EndView) → IsServed name stdin done serving → ((code : ℤ) → done.outcome ≡ Done code → ⊥) → ⊥
no_other name stdin done serving is never = never (is.owed stdin).code is.call_done.outcome

-- and with it the client is answered
pub answered_with : (name stdin stdout stderr : List ℕ) (code : ℤ) (done : CallerDone) (cv sv : EndView) (s : Settled) → IsServed name stdin done sv → CallerOwes 3 stdin done cv → cv.turned ≡ false → s.server ≡ sv → s.client ≡ cv
    → done.outcome ≡ Done code → done.stdout ≡ stdout → done.stderr ≡ stderr → (answer_of name (Call stdin) ≡ Some (result.Answered code stdout stderr)) × IsAnswered name stdin s
answered_with name stdin stdout stderr code done cv sv s is owes honest server_is client_is decided out err =
    let gives = is.owed stdin in
    let named : service_of name stdin ≡ Some gives = is.is_service stdin in
    let call = is.call_done in
    let code_is : gives.code ≡ code = let both = call.outcome in cc in
    let seen : caller_sees cv.got ≡ record { verdict = Exited gives.code; stdout = gives.stdout; stderr = gives.stderr } =
    λ i. record { verdict = (subst (λ (o : Outcome). FitsCaller o (caller_sees cv.got)) call.outcome owes.fits) i; stdout = (sym owes.stdout ∙ call.stdout) i; stderr = (sym owes.stderr ∙ call.stderr) i } in
    let served_all : serving_sees sv.got ≡ record { fault = None; input = stdin; ended = true } = λ i. record { fault = call.no_fault i; input = call.input_is i; ended = call.input_ended i } in (
      ap (option_map answered) named ∙ (λ i. Some (result.Answered (code_is i) ((sym call.stdout ∙ out) i) ((sym call.stderr ∙ err) i))),
      record {
        honest = ap (λ (e : EndView). e.turned) client_is ∙ honest;
        gives = gives;
        is_service = named;
        caller = ap (λ (e : EndView). caller_sees e.got) client_is ∙ seen;
        serving = ap (λ (e : EndView). serving_sees e.got) server_is ∙ served_all;
      },
    )

-- the epoch of a call, whose exit code goes through 32 bits
pub call_comes : (page : PageView) (caller : CallerEnd) (serving : ServingEnd) (s : Settled) (code shown : ℤ) → IsSettledBy page serving.retired caller.retired s → caller.done.outcome ≡ Done code → (FitsSigned w32 code → shown ≡ code)
    → (stdin : List ℕ) (service : Builtin) → HasCalled page.table stdin caller → HasServed page.table service serving → ComesTo (words_of page) (Call stdin) service (result.Answered shown caller.done.stdout caller.done.stderr) s
call_comes page caller serving s code shown by decided same stdin service called served_end = record {
  settled = by.settled;
  words_are = by.words_are;
  server_honest = ap (λ (e : EndView). e.turned) by.server_is ∙ served_end.honest;
  result_is = λ name named. (all name named).0;
  page_is = λ name named. (all name named).1;
}
  where
    all : (name : List ℕ) → IsService name (builtin_owes service) → (answer_of name (Call stdin) ≡ Some (result.Answered shown caller.done.stdout caller.done.stderr)) × IsAnswered name stdin s
    all name named =
        let is = served name stdin service page caller serving s named called served_end by in
        let gives : code ≡ (is.owed stdin).code = let both = is.call_done.outcome in cc in
        let small : FitsSigned w32 code = subst (FitsSigned w32) (sym gives) (small_code name stdin (is.owed stdin) (is.is_service stdin)) in
        let with_code = answered_with name stdin caller.done.stdout caller.done.stderr code caller.done (last_view caller.retired) (last_view serving.retired) s is called.owes called.honest by.server_is by.client_is decided refl refl in
        subst (λ (n : ℤ). (answer_of name (Call stdin) ≡ Some (result.Answered n caller.done.stdout caller.done.stderr)) × IsAnswered name stdin s) (sym (same small)) with_code

-- a client that handed back a call has called
pub by_called : (words : PageStart) (page : TableId) (caller : CallerEnd) (serving : ServingEnd) (r : EpochResult) (s : Settled) (done : SideDone) → done ≡ Called caller
    → ((stdin : List ℕ) (service : Builtin) → HasCalled page stdin caller → HasServed page service serving → ComesTo words (Call stdin) service r s)
    → (guest : Client) (service : Builtin) → ClientHands page guest done → HasServed page service serving → ComesTo words guest service r s
by_called words page caller serving r s done is comes (Call stdin) service hands served_end = comes stdin service (subst (λ (d : SideDone). CallerHands page stdin d) is hands) served_end
by_called words page caller serving r s done is comes (Hostile seed stores) service hands served_end = absurd (subst (λ (d : SideDone). ScribblerHands page seed stores d) is hands)

-- what two tasks handed back, and nothing else
pub two_handed : (page : TableId) (guest : Client) (service : Builtin) (dones rest more : List SideDone) (one other : SideDone) → AreHandedBack page guest service dones → dones ≡ one ∷ rest → rest ≡ other ∷ more
    → ClientHands page guest one × ServerHands page service other
two_handed page guest service dones rest more one other handed first second = all more (subst (AreHandedBack page guest service) (first ∙ ap (λ (xs : List SideDone). one ∷ xs) second) handed)
  where
    all : (more : List SideDone) → AreHandedBack page guest service (one ∷ other ∷ more) → ClientHands page guest one × ServerHands page service other
    all [] h = h
    all (x ∷ xs) h = absurd h

-- ---- the epochs of a list

-- one client more is served
pub one_more : (name : List ℕ) (words : PageStart) (number next : ℕ) (clients rest left : List Client) (client : Client) (dones longer : List EpochDone) (e : EpochDone) → rest ≡ client ∷ left → longer ≡ dones ++ e ∷ [] → next ≡ number + 1
    → IsEpoch name words number client e → ((more : List EpochDone) → AreEpochs name words number rest more → AreEpochs name words 1 clients (dones ++ more))
    → (more : List EpochDone) → AreEpochs name words next left more → AreEpochs name words 1 clients (longer ++ more)
one_more name words number next clients rest left client dones longer e cut is count epoch goes_on more follow =
    subst (AreEpochs name words 1 clients) (sym (ap (λ (xs : List EpochDone). xs ++ more) is ∙ append_assoc dones (e ∷ []) more))
    (goes_on (e ∷ more) (subst (λ (cs : List Client). AreEpochs name words number cs (e ∷ more)) (sym cut) (epoch, subst (λ (n : ℕ). AreEpochs name words n left more) count follow)))

-- no client is left
pub all_served : (name : List ℕ) (words : PageStart) (number : ℕ) (clients rest : List Client) (dones : List EpochDone) → rest ≡ [] → ((more : List EpochDone) → AreEpochs name words number rest more → AreEpochs name words 1 clients (dones ++ more)) → AreEpochs name words 1 clients dones
all_served name words number clients rest dones none goes_on =
    subst (AreEpochs name words 1 clients) (append-nil dones) (goes_on [] (subst (λ (cs : List Client). AreEpochs name words number cs []) (sym none) tt))

-- what an epoch came to, with its number
pub epoch_at : (name : List ℕ) (words : PageStart) (number : ℕ) (client : Client) (service : Builtin) (r : EpochResult) (s : Settled) → IsService name (builtin_owes service) → ComesTo words client service r s → IsEpoch name words number client (record { number = number; result = r; settled = s })
epoch_at name words number client service r s named comes = record {
  number_is = refl;
  result_is = comes.result_is name named;
  settled = comes.settled;
  words_are = comes.words_are;
  server_honest = comes.server_honest;
  page = comes.page_is name named;
}

-- the epoch at a place
answer_at : (name : List ℕ) (words : PageStart) (number : ℕ) (clients : List Client) (dones : List EpochDone) (place : ℕ) (client : Client) → AreEpochs name words number clients dones → slice_get clients place ≡ Some client
    → (e : EpochDone) × (slice_get dones place ≡ Some e) × (answer_of name client ≡ Some e.result)
answer_at name words number [] dones place client are at = cc
answer_at name words number (c ∷ cs) [] place client are at = absurd are
answer_at name words number (c ∷ cs) (e ∷ es) zero client are at =
    let same : c ≡ client = cc in
    (e, refl, subst (λ (x : Client). answer_of name x ≡ Some e.result) same are.0.result_is)
answer_at name words number (c ∷ cs) (e ∷ es) (suc place) client are at = answer_at name words (number + 1) cs es place client are.1 at

pub epochs_apart : EpochsApart
epochs_apart name words others_words clients others dones others_dones are others_are client place others_place at others_at =
    let one = answer_at name words 1 clients dones place client are at in
    let other = answer_at name others_words 1 others others_dones others_place client others_are others_at in
    let same : one.0.result ≡ other.0.result = let p = one.2 in let q = other.2 in cc in
    subst (λ (o : Option EpochDone). AreAnsweredAlike o (slice_get others_dones others_place)) (sym one.1) (subst (AreAnsweredAlike (Some one.0)) (sym other.1) same)
