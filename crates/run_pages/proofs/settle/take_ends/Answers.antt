use Rattle.std.proofs.Common.{◌≢◌, subst, map}
use Rattle.task_duties.specs.GivenEnds.{all_retired, retired_at}
use Rattle.run_laws.specs.Laid.{server_of, client_of}
use Rattle.run_pages.specs.Settling.{HasEnd}
use Rattle.run_pages.proofs.SettleLaws.{still_has}
use Rattle.run_pages.proofs.settle.take_ends.Goals as goal

pub take_end-requires-in-Control : goal.take_end-requires-in-Control
take_end-requires-in-Control c =
    let ends = map (λ h. all_retired h.items) c.args.hands.now in
    still_has c.in-Control.domain 0 (retired_at c.take_end.result) ends (map (λ h. all_retired h.items) c.take_end.new.hands)
    (subst (λ place. server_of place ≢ client_of place) c.in-Control.is c.requires.apart) c.take_end.ensures
    (subst (λ place. HasEnd (client_of place) ends) c.in-Control.is c.requires.client)

pub take_end-requires-in-Payload-2 : goal.take_end-requires-in-Payload-2
take_end-requires-in-Payload-2 c =
    let ends = map (λ h. all_retired h.items) c.args.hands.now in
    still_has c.in-Payload.from c.in-Payload.to (retired_at c.take_end-in-Payload.result) ends (map (λ h. all_retired h.items) c.take_end-in-Payload.new.hands)
    (subst (λ place. server_of place ≢ client_of place) c.in-Payload.is c.requires.apart) c.take_end-in-Payload.ensures
    (subst (λ place. HasEnd (client_of place) ends) c.in-Payload.is c.requires.client)
