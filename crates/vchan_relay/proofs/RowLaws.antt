-- A row of tasks and of what they returned, one page after another.
use Rattle.std.proofs.Common.{◌≡◌, ◌+◌, ◌<◌, ℕ, suc, List, [], ◌∷◌, ◌++◌, length, drop, get_or, refl, sym, subst, ap, ◌∙◌, append_assoc, append-nil, Option, option_to_list, add-one, arith}
use Rattle.std.proofs.lemmas.List.{length-drop}
use Rattle.std.proofs.Math.Seq.{drop-cons}
use Rattle.end_view.specs.Settled.{Settled}
use Rattle.vchan_relay.specs.Settling.{AreSettledBy, AreAllSettledBy}
use Rattle.atomic_table.specs.Seated.{TableId}
use Rattle.ring_words.specs.declared.page.Role.TheVariants.{Server}
use Rattle.vchan_rule.specs.Seated.{PageStart, PageView, SeatedSide, IsSettledBy}
use Rattle.vchan_relay.specs.declared.lay.PageSeats.{PageSeats}
use Rattle.vchan_relay.specs.declared.task.HopDone.{HopDone}
use Rattle.vchan_relay.specs.declared.task.HopDone.TheVariants.{Wrote, Passed, Read}
use Rattle.vchan_relay.specs.declared.task.HopTask.{HopTask}
use Rattle.vchan_relay.specs.declared.task.HopTask.TheVariants.{Reads}
use Rattle.vchan_relay.specs.Joints.{JoinedEnds}
use Rattle.vchan_relay.specs.States.{ReaderState}
use Rattle.vchan_relay.specs.Laying.{IsLaid, AreLaid}
use Rattle.vchan_relay.specs.Owes.{Owes, WriterHands, RelayHands, ReaderHands, FollowOn, AreTasks, AreLeft}
use Rattle.vchan_lifecycle.specs.Ended.{IsEndOf}

-- ---- making pages

pub laid_more : (words : PageStart) (pages : List PageView) (seats : List PageSeats) (page : PageView) (seat : PageSeats) → AreLaid words pages seats → IsLaid words page seat → AreLaid words (pages ++ page ∷ []) (seats ++ seat ∷ [])
laid_more words [] [] page seat laid is = (is, tt)
laid_more words (first ∷ pages) (other ∷ seats) page seat laid is = (laid.0, laid_more words pages seats page seat laid.1 is)
laid_more words _ _ page seat laid is = absurd laid

-- ---- dealing

pub first_task : (bytes : List ℕ) (room : ℕ) (page : PageView) (pages : List PageView) (near : TableId) (task : HopTask) (tasks : List HopTask) → tasks ≡ task ∷ [] → Owes task (WriterHands page.table bytes) → near ≡ page.table →
    (more : List HopTask) → FollowOn room near pages more → AreTasks bytes room (page ∷ pages) (tasks ++ more)
first_task bytes room page pages near task tasks is owes same more follow =
    subst (λ (xs : List HopTask). AreTasks bytes room (page ∷ pages) (xs ++ more)) (sym is) (owes, subst (λ (t : TableId). FollowOn room t pages more) same follow)

pub next_task : (bytes : List ℕ) (room : ℕ) (all : List PageView) (before after : TableId) (page : PageView) (pages : List PageView) (task : HopTask) (tasks longer : List HopTask) →
    ((more : List HopTask) → FollowOn room before (page ∷ pages) more → AreTasks bytes room all (tasks ++ more)) → longer ≡ tasks ++ task ∷ [] → Owes task (RelayHands before page.table) → after ≡ page.table →
    (more : List HopTask) → FollowOn room after pages more → AreTasks bytes room all (longer ++ more)
next_task bytes room all before after page pages task tasks longer goes_on is owes same more follow =
    subst (λ (xs : List HopTask). AreTasks bytes room all xs) (sym (ap (λ (xs : List HopTask). xs ++ more) is ∙ append_assoc tasks (task ∷ []) more))
    (goes_on (task ∷ more) (owes, subst (λ (t : TableId). FollowOn room t pages more) same follow))

pub last_task : (bytes : List ℕ) (room : ℕ) (all : List PageView) (before : TableId) (reader : ReaderState) (tasks longer : List HopTask) →
    ((more : List HopTask) → FollowOn room before [] more → AreTasks bytes room all (tasks ++ more)) → longer ≡ tasks ++ Reads reader ∷ [] → reader.end.page ≡ before → reader.room ≡ room → AreTasks bytes room all longer
last_task bytes room all before reader tasks longer goes_on is page many =
    subst (λ (xs : List HopTask). AreTasks bytes room all xs) (sym is) (goes_on (Reads reader ∷ []) (λ done hands. subst (λ (n : ℕ). ReaderHands before n done) many (subst (λ (t : TableId). ReaderHands t reader.room done) page hands)))

-- no page is left if no seat is
pub none_left : (words : PageStart) (pages : List PageView) → AreLaid words pages [] → pages ≡ []
none_left words [] laid = refl
none_left words (page ∷ pages) laid = absurd laid

-- if a seat is left, it is that of the page at the index
pub record IsNext (words : PageStart) (pages : List PageView) (index : ℕ) (page : PageView) (seat : PageSeats) (seats : List PageSeats) : Type 0 where
  pub within : index < length pages
  pub cut : drop index pages ≡ page ∷ drop (index + 1) pages
  pub laid : IsLaid words page seat
  pub rest : AreLaid words (drop (index + 1) pages) seats

some_left : (words : PageStart) (pages : List PageView) (seats : List PageSeats) (seat : PageSeats) → AreLaid words pages (seat ∷ seats) → 0 < length pages
some_left words [] seats seat laid = absurd laid
some_left words (page ∷ pages) seats seat laid = omega arith

pub is_next : (words : PageStart) (pages : List PageView) (index : ℕ) (page : PageView) (seat : PageSeats) (seats left : List PageSeats) → AreLaid words (drop index pages) left → left ≡ seat ∷ seats → page ≡ get_or pages index page → IsNext words pages index page seat seats
is_next words pages index page seat seats left laid is at =
    let laid' : AreLaid words (drop index pages) (seat ∷ seats) = subst (AreLaid words (drop index pages)) is laid in
    let some = some_left words (drop index pages) seats seat laid' in
    let long = length-drop index pages in
    let within : index < length pages = omega (arith, some, long) in
    let cut : drop index pages ≡ page ∷ drop (index + 1) pages =
    drop-cons pages index page within ∙ ap (λ (p : PageView). p ∷ drop (suc index) pages) (sym at) ∙ ap (λ (n : ℕ). page ∷ drop n pages) (sym (add-one index)) in
    let both : AreLaid words (page ∷ drop (index + 1) pages) (seat ∷ seats) = subst (λ (ps : List PageView). AreLaid words ps (seat ∷ seats)) cut laid' in
    record { within = within; cut = cut; laid = both.0; rest = both.1 }

-- ---- settling

pub passed_on : (room : ℕ) (page : PageView) (pages : List PageView) (client near far : SeatedSide) (joint : Option JoinedEnds) (dones : List HopDone) → AreLeft room (page ∷ pages) client (Passed near far joint ∷ dones) → IsEndOf page.table Server near × AreLeft room pages far dones
passed_on room page [] client near far joint [] left = absurd left.1
passed_on room page [] client near far joint (done ∷ dones) left = absurd left.1
passed_on room page (next ∷ pages) client near far joint dones left = (left.1.0.0, (left.1.0.1, left.1.1))

pub read_last : (room : ℕ) (page : PageView) (pages : List PageView) (client end : SeatedSide) (got : List ℕ) (dones : List HopDone) → AreLeft room (page ∷ pages) client (Read end got ∷ dones) → IsEndOf page.table Server end
read_last room page [] client end got [] left = left.1.0
read_last room page [] client end got (done ∷ dones) left = absurd left.1
read_last room page (next ∷ pages) client end got dones left = absurd left.1.0

pub no_writer_left : (room : ℕ) (page : PageView) (pages : List PageView) (client end : SeatedSide) (dones : List HopDone) → AreLeft room (page ∷ pages) client (Wrote end ∷ dones) → ⊥
no_writer_left room page [] client end [] left = left.1
no_writer_left room page [] client end (done ∷ dones) left = left.1
no_writer_left room page (next ∷ pages) client end dones left = left.1.0

pub some_done_left : (room : ℕ) (page : PageView) (pages : List PageView) (client : SeatedSide) → AreLeft room (page ∷ pages) client [] → ⊥
some_done_left room page [] client left = left.1
some_done_left room page (next ∷ pages) client left = left.1

-- the same for lists that are known
pub left_at : (room : ℕ) (pages pages' : List PageView) (client : SeatedSide) (dones dones' : List HopDone) → pages ≡ pages' → dones ≡ dones' → AreLeft room pages client dones → AreLeft room pages' client dones'
left_at room pages pages' client dones dones' is_pages is_dones left = subst (λ (ps : List PageView). AreLeft room ps client dones') is_pages (subst (AreLeft room pages client) is_dones left)

settled_at : (pages pages' : List PageView) (client : SeatedSide) (dones dones' : List HopDone) (settled : List Settled) (joints : List JoinedEnds) (got : List ℕ) → pages ≡ pages' → dones ≡ dones' →
    AreSettledBy pages' client dones' settled joints got → AreSettledBy pages client dones settled joints got
settled_at pages pages' client dones dones' settled joints got is_pages is_dones by =
    subst (λ (ps : List PageView). AreSettledBy ps client dones settled joints got) (sym is_pages) (subst (λ (ds : List HopDone). AreSettledBy pages' client ds settled joints got) (sym is_dones) by)

-- all that is settled, after one more page is
all_settled : (all : List PageView) (first : List HopDone) (s : Settled) (settled longer more : List Settled) (joints : List JoinedEnds) (got : List ℕ) → longer ≡ settled ++ s ∷ [] →
    AreAllSettledBy all first (settled ++ s ∷ more) joints got → AreAllSettledBy all first (longer ++ more) joints got
all_settled all first s settled longer more joints got is by =
    subst (λ (xs : List Settled). AreAllSettledBy all first xs joints got) (sym (ap (λ (xs : List Settled). xs ++ more) is ∙ append_assoc settled (s ∷ []) more)) by

pub settled_on : (all : List PageView) (first : List HopDone) (page : PageView) (pages left : List PageView) (client near far : SeatedSide) (joint : Option JoinedEnds) (dones handed : List HopDone) (s : Settled) (settled longer : List Settled)
    (joints kept : List JoinedEnds) → left ≡ page ∷ pages → handed ≡ Passed near far joint ∷ dones → IsSettledBy page near client s → longer ≡ settled ++ s ∷ [] → kept ≡ joints ++ option_to_list joint →
    ((more : List Settled) (behind : List JoinedEnds) (got : List ℕ) → AreSettledBy left client handed more behind got → AreAllSettledBy all first (settled ++ more) (joints ++ behind) got) →
    (more : List Settled) (behind : List JoinedEnds) (got : List ℕ) → AreSettledBy pages far dones more behind got → AreAllSettledBy all first (longer ++ more) (kept ++ behind) got
settled_on all first page pages left client near far joint dones handed s settled longer joints kept is_left is_handed by is is_kept goes_on more behind got rest =
    subst (λ (js : List JoinedEnds). AreAllSettledBy all first (longer ++ more) js got) (sym (append_assoc joints (option_to_list joint) behind) ∙ ap (λ (js : List JoinedEnds). js ++ behind) (sym is_kept))
    (all_settled all first s settled longer more (joints ++ (option_to_list joint ++ behind)) got is
    (goes_on (s ∷ more) (option_to_list joint ++ behind) got
    (settled_at left (page ∷ pages) client handed (Passed near far joint ∷ dones) (s ∷ more) (option_to_list joint ++ behind) got is_left is_handed (by, (behind, refl, rest)))))

pub settled_last : (all : List PageView) (first : List HopDone) (page : PageView) (pages left : List PageView) (client end : SeatedSide) (bytes : List ℕ) (dones handed : List HopDone) (s : Settled) (settled longer : List Settled) (joints : List JoinedEnds) →
    left ≡ page ∷ pages → handed ≡ Read end bytes ∷ dones → IsSettledBy page end client s → longer ≡ settled ++ s ∷ [] →
    ((more : List Settled) (behind : List JoinedEnds) (got : List ℕ) → AreSettledBy left client handed more behind got → AreAllSettledBy all first (settled ++ more) (joints ++ behind) got) → AreAllSettledBy all first longer joints bytes
settled_last all first page pages left client end bytes dones handed s settled longer joints is_left is_handed by is goes_on =
    subst (λ (js : List JoinedEnds). AreAllSettledBy all first longer js bytes) (append-nil joints)
    (subst (λ (xs : List Settled). AreAllSettledBy all first xs (joints ++ []) bytes) (sym is)
    (goes_on (s ∷ []) [] bytes (settled_at left (page ∷ pages) client handed (Read end bytes ∷ dones) (s ∷ []) [] bytes is_left is_handed (by, refl, refl, refl))))
