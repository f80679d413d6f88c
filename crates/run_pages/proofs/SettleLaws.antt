-- Taking the last ends of two tasks, and settling their page.
use Rattle.std.proofs.Common.{◌≡◌, ◌≢◌, ◌⊎◌, inl, inr, ℕ, ◌≤◌, get_or, ◌+◌, ◌<◌, List, [], ◌∷◌, ◌++◌, length, map, set, refl, ap, sym, ◌∙◌, subst, arith, append_assoc, reverse, length-append, length-set, Some, None}
use Rattle.std.specs.Prelude.{◌==◌, true, false, Contains, slice_get, option_map, if◌then◌else◌}
use Rattle.std.proofs.lemmas.List.{append-nil, map-append, map-set, reverse-append, length-map}
use Rattle.std.proofs.lemmas.List.Elements.{Contains-append_left, Contains-append_right}
use Rattle.std.proofs.lemmas.Option.{get_or_from_slice_get, slice_get-map, slice_get_cases, slice_get_within}
use Rattle.std.proofs.lemmas.Bool.{eq-eqb, ne_eqb}
use Rattle.task_duties.specs.TaskOwes.{EndAt, IsSameEnd}
use Rattle.ring_words.specs.declared.page.Role.{Role}
use Rattle.task_duties.specs.declared.place.PagePlace.{PagePlace}
use Rattle.task_duties.specs.declared.place.PagePlace.TheVariants.{Control, Payload}
use Rattle.ring_words.specs.declared.page.Role.TheVariants.{Server, Client}
use Rattle.std.proofs.lemmas.Bool.Decides.{eqb_tells}
use Rattle.std.specs.List.{AllZip as EachPair, AllByRecursion as Each}
use Rattle.list_laws.proofs.Each.{each_push}
use Rattle.list_laws.proofs.Places.{get_set}
use Rattle.list_laws.proofs.Pairs.{last_pair}
use Rattle.run_laws.specs.Laid.{orders_of, server_of, client_of}
use Rattle.run_pages.specs.Pages.{AreLaid, IsLaidFor, PageAt, new_end, new_ends}
use Rattle.run_pages.specs.Dealt.{Follows, controls_in}
use Rattle.run_pages.specs.Settling.{AreSettledBy, GivesUp, GivesUpBoth, HandsBack, HasEnd, IsJoinedBy, IsSettledBy, IsSettling, hand_of}
use Rattle.vchan_rule.specs.Seated.{PageStart}
use Rattle.scenario_file.specs.Scenario.{Plan as Scenario}
use Rattle.run_laws.specs.Report.{SettledPage}
use Rattle.run_pages.proofs.DealLaws.{ends_client, ends_more, ends_none, ends_server}
use Rattle.run_pages.proofs.FollowLaws.{controls_append, controls_laid, laid_follows}

-- the last end of a task is taken from a list of its ends
pub gives_up : {A : Type 0} (ends : A → List EndAt) (hands : List A) (number : ℕ) (hand hand' : A) (end : EndAt) → slice_get hands number ≡ Some hand
    → ends hand ≡ ends hand' ++ end ∷ [] → GivesUp number end (map ends hands) (map ends (set hands number hand'))
gives_up ends hands number hand hand' end at last = record { count = length-map (set hands number hand') ends ∙ length-set hands number hand' ∙ sym (length-map hands ends); each = each }
  where
    each : (k : ℕ) (h : List EndAt) → slice_get (map ends (set hands number hand')) k ≡ Some h → slice_get (map ends hands) k ≡ Some (h ++ (if k == number then end ∷ [] else []))
    each k h is = by (get_set (map ends hands) number k (ends hand') h (subst (λ l. slice_get l k ≡ Some h) (map-set ends hands number hand') is))
      where
        by : ((k ≡ number) × (ends hand' ≡ h)) ⊎ ((k ≢ number) × (slice_get (map ends hands) k ≡ Some h)) → slice_get (map ends hands) k ≡ Some (h ++ (if k == number then end ∷ [] else []))
        by (inl e) = rw (eq-eqb k number e.0) (subst (λ l. slice_get (map ends hands) k ≡ Some (l ++ end ∷ [])) e.1
            (ap (slice_get (map ends hands)) e.0 ∙ slice_get-map ends hands number ∙ ap (option_map ends) at ∙ ap Some last))
        by (inr e) = rw (ne_eqb k number e.0) (e.1 ∙ ap Some (sym (append-nil h)))

-- another task still has its ends
pub still_has : (number other : ℕ) (end : EndAt) (old new : List (List EndAt)) → number ≢ other → GivesUp number end old new → HasEnd other old → HasEnd other new
still_has number other end old new apart gives has = by (slice_get_cases new other).1
  where
    by : ((x : List EndAt) × (other < length new) × (slice_get new other ≡ Some x) × (get_or new other x ≡ x)) ⊎ ((length new ≤ other) × (slice_get new other ≡ None)) → HasEnd other new
    by (inl e) =
        let was : slice_get old other ≡ Some (e.0 ++ []) =
        subst (λ b. slice_get old other ≡ Some (e.0 ++ (if b then end ∷ [] else []))) (ne_eqb other number (λ s. apart (sym s))) (gives.each other e.0 e.2) in
        (has.0, has.1, e.2 ∙ ap Some (sym (append-nil e.0)) ∙ sym was ∙ has.2)
    by (inr e) = absurd (omega (arith, e.0, gives.count, slice_get_within old other (has.0 ++ has.1 ∷ []) has.2))

-- ---- the last page that is left

-- if two lists with one more element are the same, so are the lists and the elements
pub same_last : {A : Type 0} (xs ys : List A) (x y : A) → xs ++ x ∷ [] ≡ ys ++ y ∷ [] → (xs ≡ ys) × (x ≡ y)
same_last [] [] x y e = (refl, cc)
same_last [] (b ∷ ys) x y e = absurd (omega (arith, ap length e, length-append ys (y ∷ [])))
same_last (a ∷ xs) [] x y e = absurd (omega (arith, ap length e, length-append xs (x ∷ [])))
same_last (a ∷ xs) (b ∷ ys) x y e = up (same_last xs ys x y (tail_eq e)) (head_eq e)
  where
    tail_eq : a ∷ xs ++ x ∷ [] ≡ b ∷ ys ++ y ∷ [] → xs ++ x ∷ [] ≡ ys ++ y ∷ []
    tail_eq e = cc

    head_eq : a ∷ xs ++ x ∷ [] ≡ b ∷ ys ++ y ∷ [] → a ≡ b
    head_eq e = cc

    up : (xs ≡ ys) × (x ≡ y) → a ≡ b → (a ∷ xs ≡ b ∷ ys) × (x ≡ y)
    up r h = (ap (λ z. z ∷ xs) h ∙ ap (λ l. b ∷ l) r.0, r.1)

-- the last place follows those before it
follows_last : (count : ℕ) (places : List PagePlace) (place : PagePlace) → Follows count (places ++ place ∷ []) → Follows (count + controls_in places) (place ∷ [])
follows_last count [] place f = subst (λ n. Follows n (place ∷ [])) (omega arith) f
follows_last count (Control d ∷ places) place f =
    subst (λ n. Follows n (place ∷ [])) (omega arith) (follows_last (count + 1) places place f.1)
follows_last count (Payload from to port ∷ places) place f = follows_last count places place f.5

follows_first : (count : ℕ) (places : List PagePlace) (place : PagePlace) → Follows count (places ++ place ∷ []) → Follows count places
follows_first count [] place f = tt
follows_first count (Control d ∷ places) place f = (f.0, follows_first (count + 1) places place f.1)
follows_first count (Payload from to port ∷ places) place f = (f.0, f.1, f.2, f.3, f.4, follows_first count places place f.5)

-- its two domains differ, and both have ends
pub record IsLast (place : PagePlace) (many : ℕ) : Type 0 where
  pub apart : server_of place ≢ client_of place
  pub server : server_of place < many
  pub client : client_of place < many

pub last_is : (places : List PagePlace) (place : PagePlace) (many : ℕ) → Follows 0 (places ++ place ∷ []) → controls_in (places ++ place ∷ []) < many → IsLast place many
last_is places (Control d) many f m =
    let l = follows_last 0 places (Control d) f in
    let n = controls_append places (Control d ∷ []) in
    record { apart = λ e. absurd (omega (arith, e, l.0)); server = omega (arith, l.0, n, m); client = omega (arith, m) }
last_is places (Payload from to port) many f m =
    let l = follows_last 0 places (Payload from to port) f in
    let n = controls_append places (Payload from to port ∷ []) in
    record { apart = l.0; server = omega (arith, l.2, n, m); client = omega (arith, l.4, n, m) }

-- the task with this number has its end of the last page after its ends of the others
pub record EndsWith (left : List PageAt) (p : PageAt) (role : Role) (number : ℕ) (hands : List (List EndAt)) : Type 0 where
  pub rest : List EndAt
  pub end : EndAt
  pub at : slice_get hands number ≡ Some (rest ++ end ∷ [])
  pub same : IsSameEnd (new_end p role) end

pub ends_with : (left : List PageAt) (p : PageAt) (role : Role) (number : ℕ) (hands : List (List EndAt)) → new_ends (p ∷ []) number ≡ new_end p role ∷ []
    → number < length hands → HandsBack (left ++ p ∷ []) hands → EndsWith left p role number hands
ends_with left p role number hands ends within back = by (slice_get_cases hands number).1
  where
    by : ((x : List EndAt) × (number < length hands) × (slice_get hands number ≡ Some x) × (get_or hands number x ≡ x)) ⊎ ((length hands ≤ number) × (slice_get hands number ≡ None)) → EndsWith left p role number hands
    by (inr e) = absurd (omega (arith, e.0, within))
    by (inl e) =
        let all = subst (λ l. EachPair IsSameEnd l e.0) (ends_more left p number ∙ ap (λ l. new_ends left number ++ l) ends) (back number e.0 e.2) in
        let l = last_pair IsSameEnd (new_ends left number) (new_end p role) e.0 all in
        record { rest = l.rest; end = l.last; at = e.2 ∙ ap Some l.is; same = l.pair }

-- ---- one page more is settled

-- the pairs without the last one
but_last : (given : List EndAt) (e : EndAt) (hand : List EndAt) (x : EndAt) → EachPair IsSameEnd (given ++ e ∷ []) (hand ++ x ∷ []) → EachPair IsSameEnd given hand
but_last given e hand x pairs =
    let l = last_pair IsSameEnd given e (hand ++ x ∷ []) pairs in
    subst (λ h. EachPair IsSameEnd given h) (sym (same_last hand l.rest x l.last l.is).0) l.pairs

-- the ends of the other pages are still there
pub back_on : (left : List PageAt) (p : PageAt) (server client : EndAt) (hands hands' : List (List EndAt)) → server_of p.place ≢ client_of p.place
    → HandsBack (left ++ p ∷ []) hands → GivesUpBoth p.place server client hands hands' → HandsBack left hands'
back_on left p server client hands hands' apart back gives k hand is = by (eqb_tells k (server_of p.place)) (eqb_tells k (client_of p.place))
  where
    before : slice_get gives.0 k ≡ Some (hand ++ (if k == client_of p.place then client ∷ [] else []))
    before = gives.2.each k hand is

    first : slice_get hands k ≡ Some ((hand ++ (if k == client_of p.place then client ∷ [] else [])) ++ (if k == server_of p.place then server ∷ [] else []))
    first = gives.1.each k (hand ++ (if k == client_of p.place then client ∷ [] else [])) before

    pairs : EachPair IsSameEnd (new_ends left k ++ new_ends (p ∷ []) k) ((hand ++ (if k == client_of p.place then client ∷ [] else [])) ++ (if k == server_of p.place then server ∷ [] else []))
    pairs = subst (λ l. EachPair IsSameEnd l ((hand ++ (if k == client_of p.place then client ∷ [] else [])) ++ (if k == server_of p.place then server ∷ [] else []))) (ends_more left p k) (back k _ first)

    by : (((k == server_of p.place) ≡ true) × (k ≡ server_of p.place)) ⊎ (((k == server_of p.place) ≡ false) × (k ≢ server_of p.place))
        → (((k == client_of p.place) ≡ true) × (k ≡ client_of p.place)) ⊎ (((k == client_of p.place) ≡ false) × (k ≢ client_of p.place)) → EachPair IsSameEnd (new_ends left k) hand
    by (inl a) (inl b) = absurd (apart (sym a.1 ∙ b.1))
    by (inl a) (inr b) = but_last (new_ends left k) (new_end p Server) hand server (subst (λ l. EachPair IsSameEnd (new_ends left k ++ l) (hand ++ server ∷ [])) (ends_server p k (sym a.1))
        (subst (λ l. EachPair IsSameEnd (new_ends left k ++ new_ends (p ∷ []) k) (l ++ server ∷ [])) (append-nil hand)
        (subst (λ t. EachPair IsSameEnd (new_ends left k ++ new_ends (p ∷ []) k) ((hand ++ []) ++ (if t then server ∷ [] else []))) a.0
        (subst (λ t. EachPair IsSameEnd (new_ends left k ++ new_ends (p ∷ []) k) ((hand ++ (if t then client ∷ [] else [])) ++ (if k == server_of p.place then server ∷ [] else []))) b.0 pairs))))
    by (inr a) (inl b) = but_last (new_ends left k) (new_end p Client) hand client (subst (λ l. EachPair IsSameEnd (new_ends left k ++ l) (hand ++ client ∷ [])) (ends_client p k (λ e. a.1 (sym e)) (sym b.1))
        (subst (λ l. EachPair IsSameEnd (new_ends left k ++ new_ends (p ∷ []) k) l) (append-nil (hand ++ client ∷ []))
        (subst (λ t. EachPair IsSameEnd (new_ends left k ++ new_ends (p ∷ []) k) ((hand ++ client ∷ []) ++ (if t then server ∷ [] else []))) a.0
        (subst (λ t. EachPair IsSameEnd (new_ends left k ++ new_ends (p ∷ []) k) ((hand ++ (if t then client ∷ [] else [])) ++ (if k == server_of p.place then server ∷ [] else []))) b.0 pairs))))
    by (inr a) (inr b) = subst (λ l. EachPair IsSameEnd l hand) (append-nil (new_ends left k))
        (subst (λ l. EachPair IsSameEnd (new_ends left k ++ l) hand) (ends_none p k (λ e. a.1 (sym e)) (λ e. b.1 (sym e)))
        (subst (λ l. EachPair IsSameEnd (new_ends left k ++ new_ends (p ∷ []) k) l) (append-nil (hand ++ []) ∙ append-nil hand)
        (subst (λ t. EachPair IsSameEnd (new_ends left k ++ new_ends (p ∷ []) k) ((hand ++ []) ++ (if t then server ∷ [] else []))) a.0
        (subst (λ t. EachPair IsSameEnd (new_ends left k ++ new_ends (p ∷ []) k) ((hand ++ (if t then client ∷ [] else [])) ++ (if k == server_of p.place then server ∷ [] else []))) b.0 pairs))))

some_eq : {x y : List EndAt} → Some x ≡ Some y → x ≡ y
some_eq e = cc

-- another task's end stays the last
ends_still : (left : List PageAt) (p : PageAt) (role : Role) (number other : ℕ) (end : EndAt) (old new : List (List EndAt)) → number ≢ other → GivesUp number end old new
    → EndsWith left p role other old → EndsWith left p role other new
ends_still left p role number other end old new apart gives e =
    let has = still_has number other end old new apart gives (e.rest, e.end, e.at) in
    let same = still_same number other end old new apart gives has.0 has.1 has.2 in
    let was = same_last e.rest has.0 e.end has.1 (some_eq (sym e.at ∙ same)) in
    record { rest = has.0; end = has.1; at = has.2; same = subst (λ x. IsSameEnd (new_end p role) x) was.1 e.same }
  where
    still_same : (number other : ℕ) (end : EndAt) (old new : List (List EndAt)) → number ≢ other → GivesUp number end old new
        → (rest : List EndAt) (last : EndAt) → slice_get new other ≡ Some (rest ++ last ∷ []) → slice_get old other ≡ Some (rest ++ last ∷ [])
    still_same number other end old new apart gives rest last is =
        subst (λ b. slice_get old other ≡ Some ((rest ++ last ∷ []) ++ (if b then end ∷ [] else []))) (ne_eqb other number (λ s. apart (sym s))) (gives.each other (rest ++ last ∷ []) is)
        ∙ ap Some (append-nil (rest ++ last ∷ []))

-- what a task gives up is its end of the last page
pub record GaveUp (p : PageAt) (role : Role) (number : ℕ) (end : EndAt) (old : List (List EndAt)) : Type 0 where
  pub rest : List EndAt
  pub at : slice_get old number ≡ Some (rest ++ end ∷ [])
  pub same : IsSameEnd (new_end p role) end

gave_up : (left : List PageAt) (p : PageAt) (role : Role) (number : ℕ) (end : EndAt) (old new : List (List EndAt)) → GivesUp number end old new → EndsWith left p role number old → GaveUp p role number end old
gave_up left p role number end old new gives e = by (slice_get_cases new number).1
  where
    by : ((x : List EndAt) × (number < length new) × (slice_get new number ≡ Some x) × (get_or new number x ≡ x)) ⊎ ((length new ≤ number) × (slice_get new number ≡ None)) → GaveUp p role number end old
    by (inr n) = absurd (omega (arith, n.0, gives.count, slice_get_within old number (e.rest ++ e.end ∷ []) e.at))
    by (inl x) =
        let at : slice_get old number ≡ Some (x.0 ++ end ∷ []) = subst (λ b. slice_get old number ≡ Some (x.0 ++ (if b then end ∷ [] else []))) (eq-eqb number number refl) (gives.each number x.0 x.2) in
        record { rest = x.0; at = at; same = subst (λ y. IsSameEnd (new_end p role) y) (same_last e.rest x.0 e.end end (some_eq (sym e.at ∙ at))).1 e.same }

-- the last page, with the ends that its two tasks have of it
pub record IsLastPage (left : List PageAt) (p : PageAt) (hands : List (List EndAt)) : Type 0 where
  pub apart : server_of p.place ≢ client_of p.place
  pub server : EndsWith left p Server (server_of p.place) hands
  pub client : EndsWith left p Client (client_of p.place) hands

pub last_page : (s : Scenario) (left all before : List PageAt) (p : PageAt) (hands first : List (List EndAt)) (settled : List SettledPage) → left ≡ before ++ p ∷ []
    → IsSettling s left all hands first settled → IsLastPage before p hands
last_page s left all before p hands first settled is inv =
    let places : map (λ p. p.place) left ≡ map (λ p. p.place) before ++ p.place ∷ [] = ap (map (λ p. p.place)) is ∙ map-append (λ p. p.place) before (p ∷ []) in
    let last = last_is (map (λ p. p.place) before) p.place (length hands) (subst (Follows 0) places inv.follows) (subst (λ l. controls_in l < length hands) places inv.many) in
    let back = subst (λ l. HandsBack l hands) is inv.back in
    record {
      apart = last.apart;
      server = ends_with before p Server (server_of p.place) hands (ends_server p (server_of p.place) refl) last.server back;
      client = ends_with before p Client (client_of p.place) hands (ends_client p (client_of p.place) last.apart refl) last.client back;
    }

-- both tasks give up their ends of the page
pub record GaveBoth (p : PageAt) (server client : EndAt) (hands between : List (List EndAt)) : Type 0 where
  pub server_gave : GaveUp p Server (server_of p.place) server hands
  pub client_gave : GaveUp p Client (client_of p.place) client between

pub gave_both : (before : List PageAt) (p : PageAt) (server client : EndAt) (hands hands' : List (List EndAt)) → IsLastPage before p hands → (gives : GivesUpBoth p.place server client hands hands')
    → GaveBoth p server client hands gives.0
gave_both before p server client hands hands' last gives = record {
  server_gave = gave_up before p Server (server_of p.place) server hands gives.0 gives.1 last.server;
  client_gave = gave_up before p Client (client_of p.place) client gives.0 hands' gives.2
      (ends_still before p Client (server_of p.place) (client_of p.place) server hands gives.0 last.apart gives.1 last.client);
}

-- ---- the state with one page more settled

-- what is left and what was taken make up what a task gave back
taken_on : (place : PagePlace) (server client : EndAt) (hands hands' first : List (List EndAt)) → GivesUpBoth place server client hands hands'
    → ((k : ℕ) (hand : List EndAt) → slice_get hands k ≡ Some hand → (taken : List EndAt) × (slice_get first k ≡ Some (hand ++ taken)))
    → (k : ℕ) (hand : List EndAt) → slice_get hands' k ≡ Some hand → (taken : List EndAt) × (slice_get first k ≡ Some (hand ++ taken))
taken_on place server client hands hands' first gives within k hand is =
    let c = if k == client_of place then client ∷ [] else [] in
    let s = if k == server_of place then server ∷ [] else [] in
    let before = within k ((hand ++ c) ++ s) (gives.1.each k (hand ++ c) (gives.2.each k hand is)) in
    (c ++ (s ++ before.0), before.1 ∙ ap Some (append_assoc (hand ++ c) s before.0 ∙ append_assoc hand c (s ++ before.0)))

-- an end that was given up is one of those that its task gave back
gave_back : (p : PageAt) (role : Role) (number : ℕ) (end : EndAt) (hands first : List (List EndAt)) → GaveUp p role number end hands
    → ((k : ℕ) (hand : List EndAt) → slice_get hands k ≡ Some hand → (taken : List EndAt) × (slice_get first k ≡ Some (hand ++ taken))) → Contains (hand_of first number) end
gave_back p role number end hands first gave within =
    let before = within number (gave.rest ++ end ∷ []) gave.at in
    subst (λ l. Contains l end) (sym (get_or_from_slice_get first number ((gave.rest ++ end ∷ []) ++ before.0) [] before.1))
    (Contains-append_left (gave.rest ++ end ∷ []) before.0 end (Contains-append_right gave.rest (end ∷ []) end (0, omega arith, refl)))

-- after a task gave up its last end, what each task has left is still the first part of what it gave back
still_there : (number : ℕ) (end : EndAt) (old new first : List (List EndAt)) → GivesUp number end old new
    → ((k : ℕ) (hand : List EndAt) → slice_get old k ≡ Some hand → (taken : List EndAt) × (slice_get first k ≡ Some (hand ++ taken)))
    → (k : ℕ) (hand : List EndAt) → slice_get new k ≡ Some hand → (taken : List EndAt) × (slice_get first k ≡ Some (hand ++ taken))
still_there number end old new first gives within k hand is =
    let s = if k == number then end ∷ [] else [] in
    let before = within k (hand ++ s) (gives.each k hand is) in
    (s ++ before.0, before.1 ∙ ap Some (append_assoc hand s before.0))

settled_by : (s : Scenario) (p : PageAt) (server client : EndAt) (page : SettledPage) (hands between first : List (List EndAt)) → IsLaidFor s p → GaveBoth p server client hands between
    → GivesUp (server_of p.place) server hands between
    → ((k : ℕ) (hand : List EndAt) → slice_get hands k ≡ Some hand → (taken : List EndAt) × (slice_get first k ≡ Some (hand ++ taken)))
    → IsJoinedBy p server client page → IsSettledBy s first page
settled_by s p server client page hands between first laid gave gives within joined = record {
  settled = joined.settled;
  begun = record {
    orders = ap (λ (w : PageStart). w.orders) joined.words_are ∙ laid.orders ∙ ap (orders_of s) (sym joined.place_is);
    start = ap (λ (w : PageStart). w.start) joined.words_are ∙ laid.start;
  };
  server = subst (λ place. Contains (hand_of first (server_of place)) (record { place = place; view = page.settled.server })) (sym joined.place_is)
      (subst (λ e. Contains (hand_of first (server_of p.place)) e) (ap (λ place. record { place = place; view = server.view }) gave.server_gave.same.place ∙ ap (λ v. record { place = p.place; view = v }) (sym joined.server_is))
      (gave_back p Server (server_of p.place) server hands first gave.server_gave within));
  client = subst (λ place. Contains (hand_of first (client_of place)) (record { place = place; view = page.settled.client })) (sym joined.place_is)
      (subst (λ e. Contains (hand_of first (client_of p.place)) e) (ap (λ place. record { place = place; view = client.view }) gave.client_gave.same.place ∙ ap (λ v. record { place = p.place; view = v }) (sym joined.client_is))
      (gave_back p Client (client_of p.place) client between first gave.client_gave (still_there (server_of p.place) server hands between first gives within)));
}

each_first : {A : Type 0} (P : A → Type 0) (xs : List A) (x : A) → Each P (xs ++ x ∷ []) → Each P xs × P x
each_first P [] x e = (tt, e.0)
each_first P (y ∷ xs) x e = let r = each_first P xs x e.1 in ((e.0, r.0), r.1)

-- the last page is made for its place
pub last_laid : (s : Scenario) (left all before : List PageAt) (p : PageAt) (hands first : List (List EndAt)) (settled : List SettledPage) → left ≡ before ++ p ∷ []
    → IsSettling s left all hands first settled → IsLaidFor s p
last_laid s left all before p hands first settled is inv = (each_first (IsLaidFor s) before p (subst (Each (IsLaidFor s)) is inv.laid)).1

pub settles_on : (s : Scenario) (left all before : List PageAt) (p : PageAt) (server client : EndAt) (page : SettledPage) (hands hands' first : List (List EndAt)) (settled : List SettledPage)
    → left ≡ before ++ p ∷ [] → IsSettling s left all hands first settled → GivesUpBoth p.place server client hands hands' → IsJoinedBy p server client page
    → IsSettling s before all hands' first (settled ++ page ∷ [])
settles_on s left all before p server client page hands hands' first settled is inv gives joined =
    let at : map (λ p. p.place) left ≡ map (λ p. p.place) before ++ p.place ∷ [] = ap (map (λ p. p.place)) is ∙ map-append (λ p. p.place) before (p ∷ []) in
    let last = last_page s left all before p hands first settled is inv in
    let gave = gave_both before p server client hands hands' last gives in
    let laid = each_first (IsLaidFor s) before p (subst (Each (IsLaidFor s)) is inv.laid) in
    record {
      follows = follows_first 0 (map (λ p. p.place) before) p.place (subst (Follows 0) at inv.follows);
      laid = laid.0;
      many = omega (arith, controls_append (map (λ p. p.place) before) (p.place ∷ []), ap controls_in at, inv.many, gives.1.count, gives.2.count);
      back = back_on before p server client hands hands' last.apart (subst (λ l. HandsBack l hands) is inv.back) gives;
      within = taken_on p.place server client hands hands' first gives inv.within;
      places =
          ap (λ l. map (λ p. p.place) before ++ reverse l) (map-append (λ p. p.place) settled (page ∷ []))
          ∙ ap (λ l. map (λ p. p.place) before ++ l) (reverse-append (map (λ p. p.place) settled) (page.place ∷ []))
          ∙ ap (λ place. map (λ p. p.place) before ++ place ∷ reverse (map (λ p. p.place) settled)) joined.place_is
          ∙ sym (append_assoc (map (λ p. p.place) before) (p.place ∷ []) (reverse (map (λ p. p.place) settled)))
          ∙ ap (λ l. l ++ reverse (map (λ p. p.place) settled)) (sym at) ∙ inv.places;
      each = each_push (IsSettledBy s first) settled page inv.each (settled_by s p server client page hands gives.0 first laid.1 gave gives.1 inv.within joined);
    }

-- ---- the beginning, and the end

pub settles_first : (s : Scenario) (pages : List PageAt) (hands : List (List EndAt)) → AreLaid s pages → length hands ≡ length s.domains + 1 → HandsBack pages hands → IsSettling s pages pages hands hands []
settles_first s pages hands laid count back = record {
  follows = subst (Follows 0) (sym laid.places) (laid_follows s);
  laid = laid.each;
  many = omega (arith, ap controls_in laid.places, controls_laid s, count);
  back = back;
  within = λ k hand is. ([], is ∙ ap Some (sym (append-nil hand)));
  places = append-nil (map (λ p. p.place) pages);
  each = tt;
}

each_reverse : {A : Type 0} (P : A → Type 0) (xs : List A) → Each P xs → Each P (reverse xs)
each_reverse P [] e = tt
each_reverse P (x ∷ xs) e = subst (Each P) (sym (reverse-append (x ∷ []) xs)) (each_push P (reverse xs) x (each_reverse P xs e.1) e.0)

map_reverse : {A B : Type 0} (f : A → B) (xs : List A) → map f (reverse xs) ≡ reverse (map f xs)
map_reverse f [] = refl
map_reverse f (x ∷ xs) =
    ap (map f) (reverse-append (x ∷ []) xs) ∙ map-append f (reverse xs) (x ∷ []) ∙ ap (λ l. l ++ f x ∷ []) (map_reverse f xs) ∙ sym (reverse-append (f x ∷ []) (map f xs))

pub settles_all : (s : Scenario) (all : List PageAt) (hands first : List (List EndAt)) (settled : List SettledPage) → IsSettling s [] all hands first settled → AreSettledBy s all first (reverse settled)
settles_all s all hands first settled inv = record {
  places = map_reverse (λ p. p.place) settled ∙ inv.places;
  each = each_reverse (IsSettledBy s first) settled inv.each;
}
