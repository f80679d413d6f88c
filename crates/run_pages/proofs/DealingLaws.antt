-- Dealing all pages, one after another.
use Rattle.std.proofs.Common.{◌≡◌, ℕ, suc, ◌+◌, ◌<◌, List, [], ◌∷◌, ◌++◌, length, map, refl, ap, sym, ◌∙◌, subst, arith, zero, add-one, take, drop, get_or}
use Rattle.std.proofs.lemmas.List.{append-nil, take-append-drop, take_more}
use Rattle.std.proofs.Math.Seq.{drop-cons, drop-nil}
use Rattle.std.proofs.lemmas.Option.{none-some}
use Rattle.vchan_rule.specs.Seated.{SeatedEnd}
use Rattle.task_duties.specs.declared.place.PagePlace.{PagePlace}
use Rattle.task_duties.specs.declared.place.PagePlace.TheVariants.{Control, Payload}
use Rattle.run_pages.specs.declared.lay.PageSeats.{PageSeats}
use Rattle.run_pages.specs.declared.deal.Hand.{Hand}
use Rattle.run_pages.specs.Pages.{PageAt, AreLaid, HasSeats}
use Rattle.run_pages.specs.Dealt.{Follows, AreDealt, HandsDealt, HaveOrders, IsDealing, controls_in, hands_after}
use Rattle.scenario_file.specs.Scenario.{Plan as Scenario}
use Rattle.run_pages.proofs.FollowLaws.{controls_laid, laid_follows}

-- the next page may be dealt
pub next_follows : (count : ℕ) (place : PagePlace) (places : List PagePlace) → Follows count (place ∷ places) → Follows count (place ∷ [])
next_follows count (Control domain) places f = (f.0, tt)
next_follows count (Payload from to port) places f = (f.0, f.1, f.2, f.3, f.4, tt)

-- and then the others follow
rest_follows : (count : ℕ) (place : PagePlace) (places : List PagePlace) → Follows count (place ∷ places) → Follows (hands_after place count) places
rest_follows count (Control domain) places f = f.1
rest_follows count (Payload from to port) places f = f.5

rest_count : (count all : ℕ) (place : PagePlace) (places : List PagePlace) → count + controls_in (place ∷ places) ≡ all → hands_after place count + controls_in places ≡ all
rest_count count all (Control domain) places e = omega (arith, e)
rest_count count all (Payload from to port) places e = e

pub dealing_on : (before left : List PageAt) (p : PageAt) (x : PageSeats) (seats : List PageSeats) (controls controls' : List SeatedEnd) (hands hands' : List Hand) (all : ℕ)
    → IsDealing before (p ∷ left) (x ∷ seats) controls hands all → AreDealt (before ++ p ∷ []) controls' hands' → length hands' ≡ hands_after p.place (length hands)
    → IsDealing (before ++ p ∷ []) left seats controls' hands' all
dealing_on before left p x seats controls controls' hands hands' all d dealt count = record {
  dealt = dealt;
  follows = subst (λ n. Follows n (map (λ p. p.place) left)) (sym count) (rest_follows (length hands) p.place (map (λ p. p.place) left) d.follows);
  seated = d.seated.1;
  count = subst (λ n. n + controls_in (map (λ p. p.place) left) ≡ all) (sym count) (rest_count (length hands) all p.place (map (λ p. p.place) left) d.count);
}

-- ---- where the next page stands

pub within_seats : (pages : List PageAt) (k : ℕ) (x : PageSeats) (seats : List PageSeats) → HasSeats (drop k pages) (x ∷ seats) → k < length pages
within_seats [] k x seats h = absurd (subst (λ l. HasSeats l (x ∷ seats)) (drop-nil k) h)
within_seats (p ∷ pages) zero x seats h = omega arith
within_seats (p ∷ pages) (suc k) x seats h = omega (arith, within_seats pages k x seats h)

pub drop_next : (pages : List PageAt) (k : ℕ) (p : PageAt) → k < length pages → get_or pages k p ≡ p → drop k pages ≡ p ∷ drop (k + 1) pages
drop_next pages k p w g = drop-cons pages k p w ∙ (λ i. g i ∷ drop (sym (add-one k) i) pages)

-- what is known before the next page is dealt
pub record IsNext (pages : List PageAt) (k : ℕ) (p : PageAt) (x : PageSeats) (seats : List PageSeats) (controls : List SeatedEnd) (hands : List Hand) (all : ℕ) : Type 0 where
  pub dealing : IsDealing (take k pages) (p ∷ drop (k + 1) pages) (x ∷ seats) controls hands all
  pub taken : take (k + 1) pages ≡ take k pages ++ p ∷ []

pub is_next : (pages : List PageAt) (k : ℕ) (p : PageAt) (x : PageSeats) (seats all_seats : List PageSeats) (controls : List SeatedEnd) (hands : List Hand) (all : ℕ)
    → all_seats ≡ x ∷ seats → ((k < length pages) → get_or pages k p ≡ p) → IsDealing (take k pages) (drop k pages) all_seats controls hands all → IsNext pages k p x seats controls hands all
is_next pages k p x seats all_seats controls hands all is got d =
    let with_seats = subst (λ l. IsDealing (take k pages) (drop k pages) l controls hands all) is d in
    let within = within_seats pages k x seats with_seats.seated in
    record {
      dealing = subst (λ l. IsDealing (take k pages) l (x ∷ seats) controls hands all) (drop_next pages k p within (got within)) with_seats;
      taken = take_more pages k p within ∙ ap (λ q. take k pages ++ q ∷ []) (got within);
    }

-- all are dealt if no seats are left
pub all_dealt : (before left : List PageAt) (controls : List SeatedEnd) (hands : List Hand) (all : ℕ) → IsDealing before left [] controls hands all
    → AreDealt before controls hands × (left ≡ []) × (length hands ≡ all)
all_dealt before [] controls hands all d = (d.dealt, refl, omega (arith, d.count))
all_dealt before (p ∷ left) controls hands all d = absurd d.seated

pub take_all : (pages : List PageAt) (k : ℕ) → drop k pages ≡ [] → take k pages ≡ pages
take_all pages k e = sym (append-nil (take k pages)) ∙ ap (λ l. take k pages ++ l) (sym e) ∙ take-append-drop k pages

-- nothing is dealt yet
pub none_dealt : (s : Scenario) (pages : List PageAt) (seats : List PageSeats) → AreLaid s pages → HasSeats pages seats → IsDealing [] pages seats [] [] (length s.domains)
none_dealt s pages seats laid seated = record {
  dealt = record { controls_are = refl; hands_are = no_hands; as_many = refl; beyond = λ number far. refl };
  follows = subst (Follows 0) (sym laid.places) (laid_follows s);
  seated = seated;
  count = omega (arith, ap controls_in laid.places, controls_laid s);
}
  where
    no_hands : HandsDealt [] []
    no_hands k hand is = absurd (none-some hand is)

pub none_ordered : (s : Scenario) → HaveOrders s []
none_ordered s k hand is = absurd (none-some hand is)
