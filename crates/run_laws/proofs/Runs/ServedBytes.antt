-- What is read of the bytes of a call that is served: one honest domain calls the echo of another with no input.
use Rattle.std.proofs.Common.{ℕ, List, [], ◌∷◌, refl, arith}
use Rattle.std.specs.Prelude.{codes, pos}
use Rattle.std.specs.List.{flat_map}
use Rattle.std.proofs.lemmas.List.{append-nil}
use Rattle.qrexec_frame.specs.Fronts.{front}
use Rattle.qrexec_frame.specs.Messages.{written}
use Rattle.qrexec_frame.specs.declared.message.Message.TheVariants as m
use Rattle.service_gate.specs.Triple.{writes}
use Rattle.service_gate.specs.ServiceResult.{service}
use Rattle.qrexec_data.specs.declared.outcome.Outcome.TheVariants as outcome
use Rattle.end_view.specs.EndView.{EndView}
use Rattle.task_duties.specs.Agent.Sessions.{CallerOwes, ServingOwes}

abbrev pub end_with : EndView → List ℕ → List ℕ → EndView
end_with end sent got = record end { sent = sent; got = got }

abbrev pub calls : List ℕ
calls = flat_map written (m.Hello 3 ∷ m.Stdin [] ∷ [])

abbrev pub serves : List ℕ
serves = flat_map written (m.Hello 3 ∷ m.Stdout [] ∷ m.Stderr [] ∷ m.ExitCode (pos 0) ∷ [])

pub caller_owes : (end : EndView) → CallerOwes 3 [] (record { outcome = outcome.Done (pos 0); stdout = []; stderr = []; got = serves }) (end_with end calls serves)
unfolding front
caller_owes end = record {
  got = refl;
  sent = (m.Hello 3 ∷ m.Stdin [] ∷ [], record { pieces = []; each = tt; all = refl; is = refl }, ([], append-nil calls));
  stdout = refl;
  stderr = refl;
  fits = refl;
  ended = tt;
}

pub serving_owes : (end : EndView) → ServingOwes 3 (codes "echo") (outcome.Done (pos 0)) calls (end_with end serves calls)
unfolding front service
serving_owes end = record {
  owed = λ input. writes input;
  is_service = λ input. refl;
  got_is = refl;
  sent = (m.Hello 3 ∷ m.Stdout [] ∷ m.Stderr [] ∷ m.ExitCode (pos 0) ∷ [], record { pieces = []; each = tt; stdout = refl; stderr = refl; is = refl }, ([], append-nil serves));
  fits = (refl, refl, (0, omega arith, refl));
  ended = (refl, record { version = 3; agreed = refl; stream = m.Hello 3 ∷ m.Stdout [] ∷ m.Stderr [] ∷ m.ExitCode (pos 0) ∷ []; is_stream = record { pieces = []; each = tt; stdout = refl; stderr = refl; is = refl }; whole = refl });
}
