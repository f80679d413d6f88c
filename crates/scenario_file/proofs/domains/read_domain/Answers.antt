use Rattle.std.proofs.Common.{◌≡◌, Bor, None, codes, refl}
use Rattle.std.specs.Prelude.{is_some}
use Rattle.std.proofs.lemmas.Result.{err_from_is_err_and}
use Rattle.toml.specs.Data.{get_member}
use Rattle.toml.specs.declared.value.Value.{Value}
use Rattle.toml.specs.View.{table_view, view}
use Rattle.scenario_file.specs.declared.place.Section.TheVariants as section
use Rattle.scenario_file.specs.Checks.{key_list, known_keys, needed_text, optional}
use Rattle.scenario_file.specs.Tables.{hostile_in, new_name, numbers_of}
use Rattle.scenario_file.proofs.ReadLaws.{key_asked, refused_item}
use Rattle.scenario_file.proofs.TotalLaws.{domain_fits}
use Rattle.scenario_file.proofs.domains.read_domain.Goals as goal

pub returns-in_err-check_keys-clause-domain : goal.returns-in_err-check_keys-clause-domain
returns-in_err-check_keys-clause-domain c =
    let p = err_from_is_err_and c.from_residual.result c.from_residual.ensures.1 in
    let asked : c.is_some.result ≡ is_some (get_member (codes "hostile") (table_view c.args.table.now)) = key_asked (λ (v : Bor Value). view v.now) c.member.result _ _ c.is_some.ensures c.member.ensures in
    rw (p.1, p.2) (refused_item c.in_err-check_keys.field-0.0 (known_keys (section.Domain c.args.number) c.is_some.result (key_list (table_view c.args.table.now))) _ (λ fault is. rw (← asked, is) refl) c.in_err-check_keys.ensures)

pub returns-in_err-needed_text-clause-domain : goal.returns-in_err-needed_text-clause-domain
returns-in_err-needed_text-clause-domain c =
    let p = err_from_is_err_and c.from_residual-in_err-needed_text.result c.from_residual-in_err-needed_text.ensures.1 in
    let asked : c.is_some.result ≡ is_some (get_member (codes "hostile") (table_view c.args.table.now)) = key_asked (λ (v : Bor Value). view v.now) c.member.result _ _ c.is_some.ensures c.member.ensures in
    rw (p.1, p.2) (refused_item c.in_err-needed_text.field-0.0 (needed_text (section.Domain c.args.number) (codes "name") (table_view c.args.table.now)) _ (λ fault is. rw (← asked, c.in_ok-check_keys.ensures, is) refl) c.in_err-needed_text.ensures)

pub returns-in_err-name-clause-domain : goal.returns-in_err-name-clause-domain
returns-in_err-name-clause-domain c =
    let p = err_from_is_err_and c.from_residual-in_err-name.result c.from_residual-in_err-name.ensures.1 in
    let asked : c.is_some.result ≡ is_some (get_member (codes "hostile") (table_view c.args.table.now)) = key_asked (λ (v : Bor Value). view v.now) c.member.result _ _ c.is_some.ensures c.member.ensures in
    rw (p.1, p.2) (refused_item c.in_err-name.field-0.0 (new_name c.args.number c.args.before.now c.in_ok-needed_text.field-0.now) _ (λ fault is. rw (← asked, c.in_ok-check_keys.ensures, c.in_ok-needed_text.ensures, is) refl) c.in_err-name.ensures.name)

pub returns-in_err-hostile-clause-domain : goal.returns-in_err-hostile-clause-domain
returns-in_err-hostile-clause-domain c =
    let p = err_from_is_err_and c.from_residual-in_err-hostile.result c.from_residual-in_err-hostile.ensures.1 in
    let asked : c.is_some.result ≡ is_some (get_member (codes "hostile") (table_view c.args.table.now)) = key_asked (λ (v : Bor Value). view v.now) c.member.result _ _ c.is_some.ensures c.member.ensures in
    rw (p.1, p.2) (refused_item c.in_err-hostile.field-0.0 (optional None (hostile_in c.args.number) (get_member (codes "hostile") (table_view c.args.table.now))) _ (λ fault is. rw (← asked, c.in_ok-check_keys.ensures, c.in_ok-needed_text.ensures, c.in_ok-name.ensures.name, is) refl) c.in_err-hostile.ensures.hostile)

pub returns-in_err-ports-clause-domain : goal.returns-in_err-ports-clause-domain
returns-in_err-ports-clause-domain c =
    let p = err_from_is_err_and c.from_residual-in_err-ports.result c.from_residual-in_err-ports.ensures.1 in
    let asked : c.is_some.result ≡ is_some (get_member (codes "hostile") (table_view c.args.table.now)) = key_asked (λ (v : Bor Value). view v.now) c.member.result _ _ c.is_some.ensures c.member.ensures in
    rw (p.1, p.2) (refused_item c.in_err-ports.field-0.0 (numbers_of c.args.number c.is_some-2.result (table_view c.args.table.now)) _ (λ fault is. rw (← asked, c.in_ok-check_keys.ensures, c.in_ok-needed_text.ensures, c.in_ok-name.ensures.name, c.in_ok-hostile.ensures.hostile, ← c.is_some-2.ensures, is) refl) c.in_err-ports.ensures.numbers)

pub returns-in_err-text_of-clause-domain : goal.returns-in_err-text_of-clause-domain
returns-in_err-text_of-clause-domain c =
    let p = err_from_is_err_and c.from_residual-in_err-text_of.result c.from_residual-in_err-text_of.ensures.1 in
    rw (p.1, p.2) tt

pub returns-clause-domain : goal.returns-clause-domain
returns-clause-domain c =
    let asked : c.is_some.result ≡ is_some (get_member (codes "hostile") (table_view c.args.table.now)) = key_asked (λ (v : Bor Value). view v.now) c.member.result _ _ c.is_some.ensures c.member.ensures in
    rw (← asked, c.in_ok-check_keys.ensures, c.in_ok-needed_text.ensures, c.in_ok-name.ensures.name, c.in_ok-hostile.ensures.hostile, ← c.is_some-2.ensures, c.in_ok-ports.ensures.numbers, c.in_ok-text_of.ensures) refl

pub returns-clause-fits : goal.returns-clause-fits
returns-clause-fits c =
    rw c.in_ok-text_of.ensures (domain_fits _ _ _ _ c.in_ok-name.ensures.clean c.in_ok-hostile.ensures.fit (rw (← c.is_some-2.ensures) c.in_ok-ports.ensures.fit))
