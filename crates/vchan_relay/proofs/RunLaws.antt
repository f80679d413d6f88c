-- What a run of relays comes to, by what its tasks returned.
use Rattle.std.proofs.Common.{◌≡◌, ◌≤◌, ◌<◌, ◌+◌, ℕ, List, [], ◌∷◌, length, false, Option, ◌++◌, option_to_list, refl, sym, subst, ap, ◌∙◌, arith}
use Rattle.std.specs.List.{AllZip, AllByRecursion as Each}
use Rattle.std.proofs.lemmas.Bool.{false_from_ne_true}
use Rattle.list_laws.proofs.Prefixes.{prefix_length}
use Rattle.atomic_table.specs.Seated.{TableId}
use Rattle.ring_words.specs.declared.page.Role.TheVariants.{Server, Client}
use Rattle.end_view.specs.EndView.{EndView}
use Rattle.end_view.specs.Settled.{Settled, IsHonestPage}
use Rattle.vchan_rule.specs.Seated.{PageStart, PageView, SeatedSide, last_view, words_of, IsSettledBy}
use Rattle.vchan_relay.specs.declared.lay.PageSeats.{PageSeats}
use Rattle.vchan_relay.specs.declared.task.HopDone.{HopDone}
use Rattle.vchan_relay.specs.declared.task.HopDone.TheVariants.{Wrote, Passed, Read}
use Rattle.vchan_relay.specs.declared.task.HopTask.{HopTask}
use Rattle.vchan_relay.specs.Ended.{PassesAll}
use Rattle.vchan_relay.specs.Laying.{AreLaid}
use Rattle.vchan_relay.specs.Owes.{hop_owes, FollowOn, AreTasks, FollowBack, AreHandedBack}
use Rattle.vchan_relay.specs.Joints.{JoinedEnds, AreJoined}
use Rattle.vchan_relay.specs.Runs.{RelayedPages, IsHonestly, HasCarried, HasRelayed, AreBehind, IsThrough}
use Rattle.vchan_relay.specs.Settling.{AreSettledBy, AreAllSettledBy}
use Rattle.vchan_lifecycle.specs.Ended.{IsEndOf, SendsAll, GetsAll, HasEnded}

-- ---- from the tasks to what they returned

follow_back : (room : ℕ) (before : TableId) (pages : List PageView) (tasks : List HopTask) (dones : List HopDone) → FollowOn room before pages tasks → AllZip hop_owes tasks dones → FollowBack room before pages dones
follow_back room before [] (task ∷ []) [] follow paid = absurd paid
follow_back room before [] (task ∷ []) (done ∷ []) follow paid = follow done paid.0
follow_back room before [] (task ∷ []) (done ∷ more ∷ dones) follow paid = absurd paid.1
follow_back room before (page ∷ pages) (task ∷ tasks) [] follow paid = absurd paid
follow_back room before (page ∷ pages) (task ∷ tasks) (done ∷ dones) follow paid = (follow.0 done paid.0, follow_back room page.table pages tasks dones follow.1 paid.1)
follow_back room before _ _ dones follow paid = absurd follow

pub handed_back : (bytes : List ℕ) (room : ℕ) (pages : List PageView) (tasks : List HopTask) (dones : List HopDone) → AreTasks bytes room pages tasks → AllZip hop_owes tasks dones → AreHandedBack bytes room pages dones
handed_back bytes room (page ∷ pages) (task ∷ tasks) [] are paid = absurd paid
handed_back bytes room (page ∷ pages) (task ∷ tasks) (done ∷ dones) are paid = (are.0 done paid.0, follow_back room page.table pages tasks dones are.1 paid.1)
handed_back bytes room _ _ dones are paid = absurd are

follow_count : (room : ℕ) (before : TableId) (pages : List PageView) (tasks : List HopTask) → FollowOn room before pages tasks → length tasks ≡ length pages + 1
follow_count room before [] (task ∷ []) follow = refl
follow_count room before (page ∷ pages) (task ∷ tasks) follow = let rest = follow_count room page.table pages tasks follow.1 in omega (arith, rest)
follow_count room before _ _ follow = absurd follow

-- there is one task more than there are pages
pub count_tasks : (bytes : List ℕ) (room : ℕ) (pages : List PageView) (tasks : List HopTask) → AreTasks bytes room pages tasks → length tasks ≡ length pages + 1
count_tasks bytes room (page ∷ pages) (task ∷ tasks) are = let rest = follow_count room page.table pages tasks are.1 in omega (arith, rest)
count_tasks bytes room _ _ are = absurd are

-- ---- from what they returned to the settled pages

honestly : (words : PageStart) (page : PageView) (server client : SeatedSide) (s : Settled) → words_of page ≡ words → IsEndOf page.table Server server → IsEndOf page.table Client client → IsSettledBy page server client s → IsHonestly words s
honestly words page server client s laid is_server is_client by = record {
  settled = by.settled;
  words_are = by.words_are ∙ laid;
  client_honest = ap (λ (e : EndView). e.turned) by.client_is ∙ is_client.honest;
  server_honest = ap (λ (e : EndView). e.turned) by.server_is ∙ is_server.honest;
}

both_honest : (words : PageStart) (page : Settled) → IsHonestly words page → IsHonestPage page.server page.client
both_honest words page honest = honest.settled.honest honest.server_honest honest.client_honest

-- the page that the first settled one is
record Begins (words : PageStart) (room : ℕ) (got : List ℕ) (client : SeatedSide) (s : Settled) (settled : List Settled) (joints : List JoinedEnds) : Type 0 where
  client_is : s.client ≡ last_view client
  honest : IsHonestly words s
  behind : AreBehind words room got s.server settled
  joined : AreJoined (s ∷ settled) joints

begins : (words : PageStart) (room : ℕ) (page : PageView) (pages : List PageView) (client : SeatedSide) (done : HopDone) (dones : List HopDone) (s : Settled) (settled : List Settled) (joints : List JoinedEnds) (got : List ℕ) →
    words_of page ≡ words → Each (λ (p : PageView). words_of p ≡ words) pages → IsEndOf page.table Client client → FollowBack room page.table pages (done ∷ dones) → AreSettledBy (page ∷ pages) client (done ∷ dones) (s ∷ settled) joints got →
    Begins words room got client s settled joints
begins words room page [] client (Read end bytes) [] s settled joints got laid rest is_client follow by = record {
  client_is = by.0.client_is;
  honest = honestly words page end client s laid follow.0 is_client by.0;
  behind = subst (AreBehind words room got s.server) (sym by.1) (subst (λ (e : EndView). GetsAll e got room) (sym by.0.server_is) (subst (λ (bytes : List ℕ). GetsAll (last_view end) bytes room) (sym by.3) follow.1));
  joined = subst (λ (ss : List Settled). AreJoined (s ∷ ss) joints) (sym by.1) by.2;
}
begins words room page [] client (Wrote end) [] s settled joints got laid rest is_client follow by = absurd by
begins words room page [] client (Passed near far joint) [] s settled joints got laid rest is_client follow by = absurd follow
begins words room page [] client done (more ∷ dones) s settled joints got laid rest is_client follow by = absurd follow
begins words room page (next ∷ pages) client (Wrote end) dones s settled joints got laid rest is_client follow by = absurd by
begins words room page (next ∷ pages) client (Read end bytes) dones s settled joints got laid rest is_client follow by = absurd follow.0
begins words room page (next ∷ pages) client (Passed near far joint) [] s settled joints got laid rest is_client follow by = absurd by.1.2
begins words room page (next ∷ pages) client (Passed near far joint) (done ∷ dones) s [] joints got laid rest is_client follow by = absurd by.1.2
begins words room page (next ∷ pages) client (Passed near far joint) (done ∷ dones) s (s' ∷ settled) joints got laid rest is_client follow by =
    let later = begins words room next pages far done dones s' settled by.1.0 got rest.0 rest.1 follow.0.1 follow.1 by.1.2 in
    let passes : PassesAll s.server s'.client = subst (λ (e : EndView). PassesAll e s'.client) (sym by.0.server_is) (subst (PassesAll (last_view near)) (sym later.client_is) follow.0.2) in
    let found : (last_view far).misled ≡ false = ap (λ (e : EndView). e.misled) (sym later.client_is) ∙ (both_honest words s' later.honest).client_found in
    let one : joints ≡ record { near = last_view near; far = last_view far } ∷ by.1.0 = by.1.1 ∙ ap (λ (j : Option JoinedEnds). option_to_list j ++ by.1.0) (follow.0.3 found) in
    record {
      client_is = by.0.client_is;
      honest = honestly words page near client s laid follow.0.0 is_client by.0;
      behind = (passes, later.honest, later.behind);
      joined = subst (λ (js : List JoinedEnds). AreJoined (s ∷ s' ∷ settled) js) (sym one) (sym by.0.server_is, sym later.client_is, later.joined);
    }

-- ---- what went through them

-- the reader got no more than the first client sent
no_more : (words : PageStart) (room : ℕ) (got : List ℕ) (page : Settled) (pages : List Settled) → IsHonestly words page → AreBehind words room got page.server pages → length got ≤ length page.client.sent
no_more words room got page [] honest behind =
    let here = prefix_length page.server.got page.client.sent (both_honest words page honest).left.in_order in
    let same = ap length behind.got in
    omega (arith, here, same)
no_more words room got page (next ∷ pages) honest behind =
    let later = no_more words room got next pages behind.1 behind.2 in
    let between = prefix_length next.client.sent page.server.got behind.0.order in
    let here = prefix_length page.server.got page.client.sent (both_honest words page honest).left.in_order in
    omega (arith, later, between, here)

-- if the server of a page found the end of its stream, it has all that the client sent
ended_through : (words : PageStart) (got : List ℕ) (page : Settled) (pages : List Settled) → IsHonestly words page → page.server.got ≡ got → HasEnded page.server → Each (HasCarried words got) pages → IsThrough words got page pages
ended_through words got page pages honest is ended each =
    let both = both_honest words page honest in
    let drained = both.left.over ended.ended in
    let whole : page.server.got ≡ page.client.sent = both.left.whole drained in
    record {
      found = both.client_found;
      unseen = false_from_ne_true page.client.saw (λ saw. both.not_both ended.saw saw);
      carried = record { honest = honest; sent = sym whole ∙ is; got = is; drained = drained };
      each = each;
    }

through : (words : PageStart) (room : ℕ) (got : List ℕ) (page : Settled) (pages : List Settled) → IsHonestly words page → AreBehind words room got page.server pages → length got < room → IsThrough words got page pages
through words room got page [] honest behind few = ended_through words got page [] honest behind.got (behind.ended few) tt
through words room got page (next ∷ pages) honest behind few =
    let later = through words room got next pages behind.1 behind.2 few in
    let passed = behind.0.all later.found later.unseen in
    ended_through words got page (next ∷ pages) honest (passed.0 ∙ later.carried.sent) passed.1 (later.carried, later.each)

-- ---- the whole run

settled_length : (pages : List PageView) (client : SeatedSide) (dones : List HopDone) (settled : List Settled) (joints : List JoinedEnds) (got : List ℕ) (room : ℕ) (page : PageView) → FollowBack room page.table pages dones →
    AreSettledBy (page ∷ pages) client dones settled joints got → length settled ≡ length pages + 1
settled_length [] client (Read end bytes ∷ dones) (s ∷ settled) joints got room page follow by = let none = ap length by.1 in omega (arith, none)
settled_length (next ∷ pages) client (Read end bytes ∷ dones) (s ∷ settled) joints got room page follow by = absurd follow.0
settled_length [] client (Passed near far joint ∷ dones) (s ∷ settled) joints got room page follow by = absurd by.1.2
settled_length (next ∷ pages) client (Passed near far joint ∷ dones) (s ∷ settled) joints got room page follow by =
    let later = settled_length pages far dones settled by.1.0 got room next follow.1 by.1.2 in
    omega (arith, later)
settled_length pages client (Wrote end ∷ dones) (s ∷ settled) joints got room page follow by = absurd by
settled_length pages client _ _ joints got room page follow by = absurd by

words_of_laid : (words : PageStart) (pages : List PageView) (seats : List PageSeats) → AreLaid words pages seats → Each (λ (p : PageView). words_of p ≡ words) pages
words_of_laid words [] seats laid = tt
words_of_laid words (page ∷ pages) [] laid = absurd laid
words_of_laid words (page ∷ pages) (seat ∷ seats) laid = (laid.0.words_are, words_of_laid words pages seats laid.1)

-- the writer's bytes came through
all_through : (words : PageStart) (bytes got : List ℕ) (client : SeatedSide) (s : Settled) (settled : List Settled) (joints : List JoinedEnds) → SendsAll (last_view client) bytes → Begins words (length bytes + 1) got client s settled joints →
    (got ≡ bytes) × Each (HasCarried words bytes) (s ∷ settled)
all_through words bytes got client s settled joints sends first =
    let sends' : SendsAll s.client bytes = subst (λ (e : EndView). SendsAll e bytes) (sym first.client_is) sends in
    let most = no_more words (length bytes + 1) got s settled first.honest first.behind in
    let all = through words (length bytes + 1) got s settled first.honest first.behind (let few = sends'.few in omega (arith, most, few)) in
    let same : got ≡ bytes = sym all.carried.sent ∙ sends'.all all.found all.unseen in
    (same, subst (λ (xs : List ℕ). Each (HasCarried words xs) (s ∷ settled)) same (all.carried, all.each))

pub relayed : (hops : ℕ) (words : PageStart) (bytes : List ℕ) (pages : List PageView) (seats : List PageSeats) (dones : List HopDone) (r : RelayedPages) → AreLaid words pages seats → length pages ≡ hops + 1 →
    AreHandedBack bytes (length bytes + 1) pages dones → AreAllSettledBy pages dones r.pages r.joints r.got → HasRelayed hops words bytes r
relayed hops words bytes pages seats dones r laid count handed by = whole hops words bytes pages dones r.pages r.joints r.got (words_of_laid words pages seats laid) count handed by
  where
    whole : (hops : ℕ) (words : PageStart) (bytes : List ℕ) (pages : List PageView) (dones : List HopDone) (settled : List Settled) (joints : List JoinedEnds) (got : List ℕ) → Each (λ (p : PageView). words_of p ≡ words) pages → length pages ≡ hops + 1 →
        AreHandedBack bytes (length bytes + 1) pages dones → AreAllSettledBy pages dones settled joints got → HasRelayed hops words bytes (record { got = got; pages = settled; joints = joints })
    whole hops words bytes [] dones settled joints got laid count handed by = absurd handed
    whole hops words bytes (page ∷ pages) [] settled joints got laid count handed by = absurd handed
    whole hops words bytes (page ∷ pages) (Wrote client ∷ done ∷ dones) (s ∷ settled) joints got laid count handed by =
        let first = begins words (length bytes + 1) page pages client done dones s settled joints got laid.0 laid.1 handed.0.0 handed.1 by in
        let all = all_through words bytes got client s settled joints handed.0.1 first in
        let many = settled_length pages client (done ∷ dones) (s ∷ settled) joints got (length bytes + 1) page handed.1 by in
        record { got = all.0; count = omega (arith, many, count); each = all.1; joined = first.joined }
    whole hops words bytes (page ∷ pages) _ _ joints got laid count handed by = absurd by
