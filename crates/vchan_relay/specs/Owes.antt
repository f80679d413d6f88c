-- What the tasks of a run of relays owe, from the nearest page to the farthest.
-- Source: this project's own.
use Rattle.std.specs.Prelude.{◌≡◌, ℕ, false, List, [], ◌∷◌, Option, Some}
use Rattle.atomic_table.specs.Seated.{TableId}
use Rattle.ring_words.specs.declared.page.Role.TheVariants.{Server, Client}
use Rattle.end_view.specs.EndView.{EndView}
use Rattle.vchan_rule.specs.Seated.{PageView, SeatedSide, last_view}
use Rattle.vchan_relay.specs.declared.task.HopDone.{HopDone}
use Rattle.vchan_relay.specs.declared.task.HopDone.TheVariants.{Wrote, Passed, Read}
use Rattle.vchan_relay.specs.declared.task.HopTask.{HopTask}
use Rattle.vchan_relay.specs.declared.task.HopTask.TheVariants.{Writes, Passes, Reads, Over}
use Rattle.vchan_relay.specs.Joints.{JoinedEnds}
use Rattle.vchan_relay.specs.Ended.{PassesAll}
use Rattle.vchan_lifecycle.specs.Ended.{IsEndOf, SendsAll, GetsAll}

-- ---- what is returned

-- by a writer of these bytes on a page
abbrev pub WriterHands : TableId → List ℕ → HopDone → Type 0
WriterHands page bytes (Wrote end) = IsEndOf page Client end × SendsAll (last_view end) bytes
WriterHands page bytes (Passed near far joint) = ⊥
WriterHands page bytes (Read end got) = ⊥

-- a relay that wasn't refused tells which two ends it joined
abbrev pub TellsJoint : EndView → EndView → Option JoinedEnds → Type 0
TellsJoint near far joint = far.misled ≡ false → joint ≡ Some (record { near = near; far = far })

-- by a relay between two pages
abbrev pub RelayHands : TableId → TableId → HopDone → Type 0
RelayHands before after (Wrote end) = ⊥
RelayHands before after (Passed near far joint) = IsEndOf before Server near × IsEndOf after Client far × PassesAll (last_view near) (last_view far) × TellsJoint (last_view near) (last_view far) joint
RelayHands before after (Read end got) = ⊥

-- by a reader on a page, with room for this many bytes
abbrev pub ReaderHands : TableId → ℕ → HopDone → Type 0
ReaderHands page room (Wrote end) = ⊥
ReaderHands page room (Passed near far joint) = ⊥
ReaderHands page room (Read end got) = IsEndOf page Server end × GetsAll (last_view end) got room

-- ---- what is owed

abbrev pub hop_owes : HopTask → HopDone → Type 0
hop_owes (Writes w) done = WriterHands w.end.page w.bytes done
hop_owes (Passes r) done = RelayHands r.near.page r.far.page done
hop_owes (Reads r) done = ReaderHands r.end.page r.room done
hop_owes (Over was) done = done ≡ was

-- the task owes this
abbrev pub Owes : HopTask → (HopDone → Type 0) → Type 0
Owes task P = (done : HopDone) → hop_owes task done → P done

-- ---- a row of them

-- for each of these pages, which come after a page, the relay that writes it; and then the reader of the last one
abbrev pub FollowOn : ℕ → TableId → List PageView → List HopTask → Type 0
FollowOn room before [] [] = ⊥
FollowOn room before [] (task ∷ []) = Owes task (ReaderHands before room)
FollowOn room before [] (task ∷ more ∷ tasks) = ⊥
FollowOn room before (page ∷ pages) [] = ⊥
FollowOn room before (page ∷ pages) (task ∷ tasks) = Owes task (RelayHands before page.table) × FollowOn room page.table pages tasks

-- the writer of the first page, and all that follow it
abbrev pub AreTasks : List ℕ → ℕ → List PageView → List HopTask → Type 0
AreTasks bytes room [] tasks = ⊥
AreTasks bytes room (page ∷ pages) [] = ⊥
AreTasks bytes room (page ∷ pages) (task ∷ tasks) = Owes task (WriterHands page.table bytes) × FollowOn room page.table pages tasks

-- the same for what they returned
abbrev pub FollowBack : ℕ → TableId → List PageView → List HopDone → Type 0
FollowBack room before [] [] = ⊥
FollowBack room before [] (done ∷ []) = ReaderHands before room done
FollowBack room before [] (done ∷ more ∷ dones) = ⊥
FollowBack room before (page ∷ pages) [] = ⊥
FollowBack room before (page ∷ pages) (done ∷ dones) = RelayHands before page.table done × FollowBack room page.table pages dones

abbrev pub AreHandedBack : List ℕ → ℕ → List PageView → List HopDone → Type 0
AreHandedBack bytes room [] dones = ⊥
AreHandedBack bytes room (page ∷ pages) [] = ⊥
AreHandedBack bytes room (page ∷ pages) (done ∷ dones) = WriterHands page.table bytes done × FollowBack room page.table pages dones

-- the same for pages that are left to settle, the first with this client
abbrev pub AreLeft : ℕ → List PageView → SeatedSide → List HopDone → Type 0
AreLeft room [] client dones = ⊥
AreLeft room (page ∷ pages) client dones = IsEndOf page.table Client client × FollowBack room page.table pages dones
