use Rattle.std.proofs.Common.{false, refl}
use Rattle.std.proofs.lemmas.Result.{err_from_is_err_and}
use Rattle.toml.specs.View.{table_view}
use Rattle.scenario_file.specs.declared.place.Section.TheVariants as section
use Rattle.scenario_file.specs.Checks.{key_list, known_keys}
use Rattle.scenario_file.specs.Tables.{caller_of, service_of, stdin_of, target_of}
use Rattle.scenario_file.proofs.ReadLaws.{refused_item}
use Rattle.scenario_file.proofs.calls.read_call.Goals as goal

pub returns-in_err-check_keys-clause-call : goal.returns-in_err-check_keys-clause-call
returns-in_err-check_keys-clause-call c =
    let p = err_from_is_err_and c.from_residual.result c.from_residual.ensures.1 in
    rw (p.1, p.2) (refused_item c.in_err-check_keys.field-0.0 (known_keys (section.Call c.args.number) false (key_list (table_view c.args.table.now))) _ (λ fault is. rw is refl) c.in_err-check_keys.ensures)

pub returns-in_err-read_caller-clause-call : goal.returns-in_err-read_caller-clause-call
returns-in_err-read_caller-clause-call c =
    let p = err_from_is_err_and c.from_residual-in_err-read_caller.result c.from_residual-in_err-read_caller.ensures.1 in
    rw (p.1, p.2) (refused_item c.in_err-read_caller.field-0.0 (caller_of c.args.number c.args.domains.now (table_view c.args.table.now)) _ (λ fault is. rw (c.in_ok-check_keys.ensures, is) refl) c.in_err-read_caller.ensures.caller)

pub returns-in_err-read_target-clause-call : goal.returns-in_err-read_target-clause-call
returns-in_err-read_target-clause-call c =
    let p = err_from_is_err_and c.from_residual-in_err-read_target.result c.from_residual-in_err-read_target.ensures.1 in
    rw (p.1, p.2) (refused_item c.in_err-read_target.field-0.0 (target_of c.args.number (table_view c.args.table.now)) _ (λ fault is. rw (c.in_ok-check_keys.ensures, c.in_ok-read_caller.ensures.caller, is) refl) c.in_err-read_target.ensures.target)

pub returns-in_err-read_service-clause-call : goal.returns-in_err-read_service-clause-call
returns-in_err-read_service-clause-call c =
    let p = err_from_is_err_and c.from_residual-in_err-read_service.result c.from_residual-in_err-read_service.ensures.1 in
    rw (p.1, p.2) (refused_item c.in_err-read_service.field-0.0 (service_of c.args.number (table_view c.args.table.now)) _ (λ fault is. rw (c.in_ok-check_keys.ensures, c.in_ok-read_caller.ensures.caller, c.in_ok-read_target.ensures.target, is) refl) c.in_err-read_service.ensures.service)

pub returns-in_err-read_stdin-clause-call : goal.returns-in_err-read_stdin-clause-call
returns-in_err-read_stdin-clause-call c =
    let p = err_from_is_err_and c.from_residual-in_err-read_stdin.result c.from_residual-in_err-read_stdin.ensures.1 in
    rw (p.1, p.2) (refused_item c.in_err-read_stdin.field-0.0 (stdin_of c.args.number (table_view c.args.table.now)) _ (λ fault is. rw (c.in_ok-check_keys.ensures, c.in_ok-read_caller.ensures.caller, c.in_ok-read_target.ensures.target, c.in_ok-read_service.ensures.service, is) refl) c.in_err-read_stdin.ensures.stdin)

pub returns-clause-call : goal.returns-clause-call
returns-clause-call c = rw (c.in_ok-check_keys.ensures, c.in_ok-read_caller.ensures.caller, c.in_ok-read_target.ensures.target, c.in_ok-read_service.ensures.service, c.in_ok-read_stdin.ensures.stdin) refl
