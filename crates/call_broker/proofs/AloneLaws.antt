-- Each pair stands alone: its entries are what it makes of its own events.
use Rattle.std.proofs.Common.{◌≡◌, List, [], ◌∷◌, ◌++◌, refl, ap, sym, ◌∙◌}
use Rattle.std.specs.Prelude.{true, false, Bool, if◌then◌else◌}
use Rattle.std.proofs.Common.{arith}
use Rattle.std.proofs.lemmas.Bool.Decides.{nat_tests}
use Rattle.call_broker.specs.declared.event.Event.{Event}
use Rattle.call_broker.specs.declared.event.Event.TheVariants.{Trigger, Terminated, Dropped}
use Rattle.call_broker.specs.declared.decision.Entry.{Entry}
use Rattle.call_broker.specs.Domains.{Domains}
use Rattle.call_broker.specs.Pair.{Pair, Ordered, Alone, PairState, at_first, is_pair, pair_of, belongs, decides, settles, step, run_on, state_after, decision}
use Rattle.call_broker.specs.Journal.{events, IsDecidedOn}
use Rattle.call_broker.specs.Laws.{own_events, own_entries, entries_from, EachPairStandsAlone, OthersCountForNothing, DecidedByOwnEvents, StrangersChangeNothing}
use Rattle.call_broker.proofs.PortLaws.{state_after_lem}
use Rattle.call_broker.proofs.TableLaws.{is_same_lem}

one_pair : (p q : Pair) → is_pair p q ≡ true → p ≡ q
one_pair (Ordered from to) (Ordered f t) same = let is = is_same_lem from to f t same in ap (λ x. Ordered x to) is.0 ∙ ap (λ x. Ordered f x) is.1
one_pair (Alone d) (Alone domain) same = let is : d ≡ domain = grind (arith, nat_tests, same) in ap Alone is
one_pair (Ordered from to) (Alone domain) same = cc
one_pair (Alone d) (Ordered f t) same = cc

-- a pair decides an event of its own as the broker does
own_decision : (hub : Domains) (pair : Pair) (before : List Event) (e : Event) → belongs hub pair e ≡ true → decision hub before e ≡ decides hub pair (state_after hub before pair) e
own_decision hub pair before (Trigger from target service ident) own =
    ap (λ p. decides hub p (state_after hub before p) (Trigger from target service ident)) (one_pair (pair_of hub (Trigger from target service ident)) pair own)
own_decision hub pair before (Terminated from other port) own =
    ap (λ p. decides hub p (state_after hub before p) (Terminated from other port)) (one_pair (pair_of hub (Terminated from other port)) pair own)
own_decision hub pair before (Dropped domain) own = refl

-- an entry in front, if it is the pair's
front_entries : (hub : Domains) (pair : Pair) (before : List Event) (x : Entry) (rest : List Entry) (es : List Event) (b : Bool) → belongs hub pair x.event ≡ b → x.decision ≡ decision hub before x.event
    → rest ≡ entries_from hub pair (step hub pair (state_after hub before pair) x.event) es
    → (if b then x ∷ rest else rest) ≡ entries_from hub pair (state_after hub before pair) (if b then x.event ∷ es else es)
front_entries hub pair before x rest es true own is more =
    let decided : x.decision ≡ decides hub pair (state_after hub before pair) x.event = is ∙ own_decision hub pair before x.event own in
    let next : rest ≡ entries_from hub pair (settles (state_after hub before pair) x.event (decides hub pair (state_after hub before pair) x.event)) es = rw own at more in
    let entry : x ≡ record { event = x.event; decision = decides hub pair (state_after hub before pair) x.event } = λ i. record { event = x.event; decision = decided i } in
    ap (λ y. y ∷ rest) entry ∙ ap (λ r. record { event = x.event; decision = decides hub pair (state_after hub before pair) x.event } ∷ r) next
front_entries hub pair before x rest es false own is more = rw own at more

alone_on : (hub : Domains) (pair : Pair) (before : List Event) (journal : List Entry) → IsDecidedOn hub before journal
    → own_entries hub pair journal ≡ entries_from hub pair (state_after hub before pair) (own_events hub pair (events journal))
alone_on hub pair before [] decided = refl
alone_on hub pair before (x ∷ journal) decided =
    let rest = alone_on hub pair (before ++ x.event ∷ []) journal decided.1 in
    let next : own_entries hub pair journal ≡ entries_from hub pair (step hub pair (state_after hub before pair) x.event) (own_events hub pair (events journal)) =
    rest ∙ ap (λ s. entries_from hub pair s (own_events hub pair (events journal))) (state_after_lem hub pair before x.event) in
    front_entries hub pair before x (own_entries hub pair journal) (own_events hub pair (events journal)) (belongs hub pair x.event) refl decided.0 next

pub each_pair_stands_alone_lem : EachPairStandsAlone
each_pair_stands_alone_lem hub pair journal decided = alone_on hub pair [] journal decided

pub others_count_for_nothing_lem : OthersCountForNothing
others_count_for_nothing_lem hub pair one other is_one is_other same =
    each_pair_stands_alone_lem hub pair one is_one ∙ ap (entries_from hub pair at_first) same ∙ sym (each_pair_stands_alone_lem hub pair other is_other)

-- a pair sees its own events alone
run_own : (hub : Domains) (pair : Pair) (s : PairState) (es : List Event) → run_on hub pair s es ≡ run_on hub pair s (own_events hub pair es)
run_own hub pair s [] = refl
run_own hub pair s (e ∷ es) = by_own (belongs hub pair e) refl (run_own hub pair (step hub pair s e) es)
  where
    by_own : (b : Bool) → belongs hub pair e ≡ b → run_on hub pair (step hub pair s e) es ≡ run_on hub pair (step hub pair s e) (own_events hub pair es)
        → run_on hub pair (step hub pair s e) es ≡ run_on hub pair s (if b then e ∷ own_events hub pair es else own_events hub pair es)
    by_own true own more = more
    by_own false none more = more ∙ ap (λ r. run_on hub pair r (own_events hub pair es)) (rw none refl)

pub decided_by_own_events_lem : DecidedByOwnEvents
decided_by_own_events_lem hub one other event same =
    let state : state_after hub one (pair_of hub event) ≡ state_after hub other (pair_of hub event) =
    run_own hub (pair_of hub event) at_first one ∙ ap (run_on hub (pair_of hub event) at_first) same ∙ sym (run_own hub (pair_of hub event) at_first other) in
    ap (λ s. decides hub (pair_of hub event) s event) state

pub strangers_change_nothing_lem : StrangersChangeNothing
strangers_change_nothing_lem hub before after stranger event none = decided_by_own_events_lem hub (before ++ stranger ∷ after) (before ++ after) event (skipped before)
  where
    skipped : (before : List Event) → own_events hub (pair_of hub event) (before ++ stranger ∷ after) ≡ own_events hub (pair_of hub event) (before ++ after)
    skipped [] = rw none refl
    skipped (e ∷ before) = by_own (belongs hub (pair_of hub event) e) (skipped before)
      where
        by_own : (b : Bool) → own_events hub (pair_of hub event) (before ++ stranger ∷ after) ≡ own_events hub (pair_of hub event) (before ++ after)
            → (if b then e ∷ own_events hub (pair_of hub event) (before ++ stranger ∷ after) else own_events hub (pair_of hub event) (before ++ stranger ∷ after))
            ≡ (if b then e ∷ own_events hub (pair_of hub event) (before ++ after) else own_events hub (pair_of hub event) (before ++ after))
        by_own true more = ap (λ r. e ∷ r) more
        by_own false more = more
