-- How the pages of a run of relays are settled by the ends that the tasks returned.
-- Source: this project's own.
use Rattle.std.specs.Prelude.{◌≡◌, ℕ, List, [], ◌∷◌, ◌++◌, option_to_list}
use Rattle.end_view.specs.Settled.{Settled}
use Rattle.vchan_rule.specs.Seated.{PageView, SeatedSide, IsSettledBy}
use Rattle.vchan_relay.specs.Joints.{JoinedEnds}
use Rattle.vchan_relay.specs.declared.task.HopDone.{HopDone}
use Rattle.vchan_relay.specs.declared.task.HopDone.TheVariants.{Wrote, Passed, Read}

-- pages, the first of which has this client, settled by what was returned after it, with the relays between them, and what the reader of the last one got
abbrev pub AreSettledBy : List PageView → SeatedSide → List HopDone → List Settled → List JoinedEnds → List ℕ → Type 0
AreSettledBy [] client dones settled joints got = ⊥
AreSettledBy (page ∷ pages) client [] settled joints got = ⊥
AreSettledBy (page ∷ pages) client (done ∷ dones) [] joints got = ⊥
AreSettledBy (page ∷ pages) client (Wrote end ∷ dones) (s ∷ settled) joints got = ⊥
AreSettledBy (page ∷ pages) client (Passed near far joint ∷ dones) (s ∷ settled) joints got =
    IsSettledBy page near client s × ((rest : List JoinedEnds) × (joints ≡ option_to_list joint ++ rest) × AreSettledBy pages far dones settled rest got)
AreSettledBy (page ∷ pages) client (Read end bytes ∷ dones) (s ∷ settled) joints got = IsSettledBy page end client s × (settled ≡ []) × (joints ≡ []) × (got ≡ bytes)

-- all pages, the first of which has the writer's end
abbrev pub AreAllSettledBy : List PageView → List HopDone → List Settled → List JoinedEnds → List ℕ → Type 0
AreAllSettledBy pages [] settled joints got = ⊥
AreAllSettledBy pages (Wrote end ∷ dones) settled joints got = AreSettledBy pages end dones settled joints got
AreAllSettledBy pages (Passed near far joint ∷ dones) settled joints got = ⊥
AreAllSettledBy pages (Read end bytes ∷ dones) settled joints got = ⊥
