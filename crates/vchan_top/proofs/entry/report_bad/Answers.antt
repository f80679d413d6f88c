use Rattle.std.proofs.Common.{sym, subst}
use Rattle.vchan_top.specs.Status.{IsAtMostALine, bad_input}
use Rattle.vchan_top.proofs.LineLaws.{script_told, decode_told, clients_told, place_told}
use Rattle.vchan_top.proofs.entry.report_bad.Goals as goal

pub returns-in-Script-clause-printable : goal.returns-in-Script-clause-printable
returns-in-Script-clause-printable g c = subst (λ b. IsAtMostALine (bad_input b)) (sym c.in-Script.is) (script_told c.in-Script.line c.in-Script.kind)

pub returns-in-Decode-clause-printable : goal.returns-in-Decode-clause-printable
returns-in-Decode-clause-printable g c = subst (λ b. IsAtMostALine (bad_input b)) (sym c.in-Decode.is) (decode_told c.in-Decode.line c.in-Decode.kind)

pub returns-in-Clients-clause-printable : goal.returns-in-Clients-clause-printable
returns-in-Clients-clause-printable g c = subst (λ b. IsAtMostALine (bad_input b)) (sym c.in-Clients.is) (clients_told c.in-Clients.line c.in-Clients.kind)

pub returns-in-Scenario-clause-printable : goal.returns-in-Scenario-clause-printable
returns-in-Scenario-clause-printable g c = subst (λ b. IsAtMostALine (bad_input b)) (sym c.in-Scenario.is) (place_told c.in-Scenario.kind c.in-Scenario.at c.report_place.ensures.printable)
