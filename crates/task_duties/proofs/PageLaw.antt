-- Outcome-done and result-equal, on the data page of a call between two honest domains.
use Rattle.std.proofs.Common.{◌≡◌, ℕ, ◌≤◌, min, List, [], ◌∷◌, ◌++◌, refl, ap, ◌∙◌, arith, ◌⊎◌, inl, inr, Option, Some, None}
use Rattle.std.specs.Prelude.{true, false, Bool, IsSome, MatchBool, MatchOption, ℤ}
use Rattle.std.specs.Int.{w32}
use Rattle.std.specs.Int.RustNames.{FitsSigned}
use Rattle.std.specs.List.{flat_map}
use Rattle.list_laws.specs.Lists.{IsPrefixOf}
use Rattle.list_laws.proofs.Prefixes.{prefix_trans}
use Rattle.qrexec_frame.specs.declared.message.Message.TheVariants.{Hello}
use Rattle.qrexec_frame.specs.Messages.{written}
use Rattle.service_gate.specs.Triple.{Triple}
use Rattle.end_view.specs.EndView.{EndView}
use Rattle.end_view.specs.Settled.{IsHonestPage}
use Rattle.qrexec_data.specs.declared.outcome.Outcome.{Outcome}
use Rattle.qrexec_data.specs.declared.outcome.Outcome.TheVariants.{Done, Fault, Closed, Gone}
use Rattle.qrexec_data.specs.Seeing.{Verdict, Undecided, Exited, CallerSeen, ServingSeen, caller_sees, serving_sees}
use Rattle.qrexec_data.specs.Sending.{agreed, most, Begins, IsCallerStream, IsServingStream, IsServingBegun, ServingMaySend}
use Rattle.qrexec_data.specs.Fitting.{FitsCaller, FitsServing}
use Rattle.qrexec_data.proofs.SessionLaws.{caller_done}
use Rattle.qrexec_data.proofs.PairLaws.{Told, reads_input, sees_serving}
use Rattle.qrexec_data.specs.Laws.{FitsTriple, ReadsInput, IsVersion}
use Rattle.task_duties.specs.declared.done.CallerDone.{CallerDone}
use Rattle.task_duties.specs.Agent.Sessions.{chunk, IsClosed, CallerOwes, CallerEnded, ServingOwes, ServingEnded}

limit_fits : (v : ℕ) → min chunk (most v) ≤ 65536
limit_fits v = omega arith

-- the caller is done with the triple, and the side that serves has read the whole input with its end
pub record IsCallDone (owed : List ℕ → Triple) (input : List ℕ) (done : CallerDone) (serving : EndView) : Type 0 where
  pub outcome : done.outcome ≡ Done (owed input).code
  pub stdout : done.stdout ≡ (owed input).stdout
  pub stderr : done.stderr ≡ (owed input).stderr
  pub no_fault : (serving_sees serving.got).fault ≡ None
  pub input_is : (serving_sees serving.got).input ≡ input
  pub input_ended : (serving_sees serving.got).ended ≡ true

pub outcome_done : (own_f own_t : ℕ) (name input : List ℕ) (done : CallerDone) (o : Outcome) (served_got : List ℕ) (caller serving : EndView)
    → IsVersion own_f → IsVersion own_t → IsHonestPage caller serving → CallerOwes own_f input done caller → (served : ServingOwes own_t name o served_got serving)
    → ((x : List ℕ) → FitsSigned w32 (served.owed x).code) → IsCallDone served.owed input done serving
outcome_done own_f own_t name input done o served_got caller serving is_f is_t page owes served codes = by_told knows
  where
    owed : List ℕ → Triple
    owed = served.owed

    seen : ServingSeen
    seen = serving_sees serving.got

    read : ReadsInput input seen
    read = reads_input own_f chunk input caller.sent serving.got (agreed own_f caller.got) is_f owes.sent page.right.in_order

    knows : Told owed seen (caller_sees caller.got)
    knows = sees_serving own_t chunk owed serving.got serving.sent caller.got (agreed own_t serving.got) refl is_t codes served.sent page.left.in_order

    whole : IsSome caller.ended → caller.got ≡ serving.sent
    whole over = page.left.whole (page.left.over over)

    decided : Verdict
    decided = (caller_sees caller.got).verdict

    no_end : caller.saw ≡ true → caller.got ≡ serving.sent → decided ≡ Undecided → (o' : Outcome) → FitsServing o' seen → ServingEnded own_t owed o' serving → ⊥
    no_end saw all open_yet (Done code) fits over =
        let s = over.1 in
        let same : caller.got ≡ flat_map written s.stream = all ∙ s.whole in
        let exit = caller_done own_t (min chunk (most s.version)) (owed seen.input) s.stream is_t.least is_t.small (limit_fits s.version) (codes seen.input) s.is_stream in
        let exit' : decided ≡ Exited (owed seen.input).code = rw same exit in
        cc
    no_end saw all open_yet (Fault fault) fits over = let none = read.fault in cc
    no_end saw all open_yet Closed fits over = by_cause over
      where
        by_cause : (IsClosed serving ⊎ (serving.misled ≡ true)) → ⊥
        by_cause (inl h) = page.not_both saw h.saw
        by_cause (inr h) = let found = page.client_found in cc
    no_end saw all open_yet Gone fits over = page.not_both saw over.saw

    never : (o' : Outcome) → FitsCaller o' (caller_sees caller.got) → CallerEnded o' caller → decided ≡ Undecided → ⊥
    never (Done code) fits over h = cc
    never (Fault fault) fits over h = cc
    never Closed fits over h = no_end over.saw (whole (rw over.ended refl)) h o served.fits served.ended
    never Gone fits over h = no_end over.saw (whole (rw over.ended refl)) h o served.fits served.ended

    coded : (o' : Outcome) (code : ℤ) → FitsCaller o' (caller_sees caller.got) → decided ≡ Exited code → o' ≡ Done code
    coded (Done c) code fits h = cc
    coded (Fault fault) code fits h = cc
    coded Closed code fits h = cc
    coded Gone code fits h = cc

    by_told : Told owed seen (caller_sees caller.got) → IsCallDone owed input done serving
    by_told (inl h) = absurd (never done.outcome owes.fits owes.ended h)
    by_told (inr h) =
        let input_is : seen.input ≡ input = read.whole h.0 in
        let code : decided ≡ Exited (owed seen.input).code = ap (λ s. s.verdict) h.1 in
        let out : (caller_sees caller.got).stdout ≡ (owed seen.input).stdout = ap (λ s. s.stdout) h.1 in
        let err : (caller_sees caller.got).stderr ≡ (owed seen.input).stderr = ap (λ s. s.stderr) h.1 in
        record {
          outcome = coded done.outcome (owed seen.input).code owes.fits code ∙ ap (λ x. Done (owed x).code) input_is;
          stdout = owes.stdout ∙ out ∙ ap (λ x. (owed x).stdout) input_is;
          stderr = owes.stderr ∙ err ∙ ap (λ x. (owed x).stderr) input_is;
          no_fault = read.fault;
          input_is = input_is;
          input_ended = h.0;
        }
