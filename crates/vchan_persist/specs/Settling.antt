-- The result of an epoch, after its two tasks are done.
-- Source: this project's own.
use Rattle.std.specs.Prelude.{◌≡◌, ℕ, false, List, Some}
use Rattle.end_view.specs.Settled.{Settled, IsSettled}
use Rattle.vchan_rule.specs.Seated.{PageStart, began_with}
use Rattle.service_gate.specs.Owing.{builtin_owes}
use Rattle.service_gate.specs.declared.builtin.Builtin.{Builtin}
use Rattle.task_duties.specs.Agent.Sessions.{IsService}
use Rattle.vchan_persist.specs.declared.client.Client.{Client}
use Rattle.vchan_persist.specs.declared.epoch.EpochResult.{EpochResult}
use Rattle.vchan_persist.specs.Epochs.{answer_of, IsPageOf}

-- the result of a client's epoch and its page, whatever name the service has
pub record ComesTo (words : PageStart) (client : Client) (service : Builtin) (result : EpochResult) (page : Settled) : Type 0 where
  pub settled : IsSettled page
  pub words_are : began_with page ≡ words
  pub server_honest : page.server.turned ≡ false
  pub result_is : (name : List ℕ) → IsService name (builtin_owes service) → answer_of name client ≡ Some result
  pub page_is : (name : List ℕ) → IsService name (builtin_owes service) → IsPageOf name client page
