-- Limits-kept, of one ordered pair: while an agent keeps to sixteen open calls, none of its triggers to the other domain is refused as PairFull.
use Rattle.std.proofs.Common.{◌≡◌, ◌≢◌, ℕ, ◌+◌, ◌<◌, List, [], ◌∷◌, ◌++◌, length, map, refl, ap, sym, ◌∙◌, arith, inl, Option, Some, None, subst}
use Rattle.std.specs.Prelude.{true, false, Bool, not, nat_le, ◌==◌, ◌&&◌, bytes_eq, filter, filter_map, if◌then◌else◌}
use Rattle.std.proofs.lemmas.Bool.Decides.{nat_tests}
use Rattle.std.proofs.lemmas.List.{length-map}
use Rattle.std.specs.List.{AllByRecursion as Each}
use Rattle.list_laws.proofs.Each.{each_weaker, each_filter}
use Rattle.qrexec_frame.specs.declared.message.Message.{Message}
use Rattle.qrexec_frame.specs.declared.message.Message.TheVariants as m
use Rattle.call_broker.specs.declared.decision.Entry.{Entry}
use Rattle.call_broker.specs.declared.event.Event.{Event}
use Rattle.call_broker.specs.declared.event.Event.TheVariants.{Trigger, Terminated, Dropped}
use Rattle.call_broker.specs.declared.decision.Cause.TheVariants.{NoService, TargetDropped, PairFull, PortsSpent}
use Rattle.call_broker.specs.declared.decision.Decision.{Decision}
use Rattle.call_broker.specs.declared.decision.Decision.TheVariants.{Accepted, Refused, Ended, PassedOver}
use Rattle.call_broker.specs.Domains.{Domains, target_of, is_service, pages_of, port_after}
use Rattle.call_broker.specs.Pair.{Ordered, Alone, PairState, has, is_pair, is_of, towards, belongs, decides, settles, step, state_after, decision}
use Rattle.call_broker.specs.Journal.{IsDecidedOn, events}
use Rattle.call_broker.proofs.PortLaws.{rest_of, state_after_lem}
use Rattle.task_duties.specs.Agent.Answers.{Answer, Waits, IsRefused, At}
use Rattle.task_duties.specs.Agent.Saying.{Asking, opened, open_after, asks_for, is_at, is_refusal, KeepsTo}
use Rattle.task_duties.specs.Broker.Outbox.{event_of, is_from}
use Rattle.task_duties.proofs.SubLists.{Sub, length_sub, sub_if, sub_filter, sub_all, sub_kept, without_map, without_none}

-- ---- the limit, on the events that the broker read

abbrev pub asking_event : Event → Option Asking
asking_event (Trigger from target service ident) = Some (record { target = target; service = service; ident = ident })
asking_event event = None

abbrev pub open_event : (List ℕ → Answer) → List ℕ → Event → List (List ℕ) → List (List ℕ)
open_event answer target (Terminated from domain port) calls = filter (λ ident. not (is_at domain port (answer ident))) calls
open_event answer target event calls = opened answer target (asking_event event) calls

abbrev pub KeepsOn : (List ℕ → Answer) → List ℕ → List (List ℕ) → List Event → Type 0
KeepsOn answer target calls [] = Unit {0}
KeepsOn answer target calls (e ∷ es) = (asks_for target (asking_event e) ≡ true → length calls < 16) × KeepsOn answer target (open_event answer target e calls) es

pub keeps_on : (f : ℕ) (answer : List ℕ → Answer) (target : List ℕ) (said : List Message) (calls : List (List ℕ)) → KeepsTo answer target calls said → KeepsOn answer target calls (filter_map (event_of f) said)
keeps_on f answer target [] calls k = tt
keeps_on f answer target (m.Trigger3 t i s ∷ said) calls k = (k.0, keeps_on f answer target said (open_after answer target (m.Trigger3 t i s) calls) k.1)
keeps_on f answer target (m.Trigger t i s ∷ said) calls k = (k.0, keeps_on f answer target said (open_after answer target (m.Trigger t i s) calls) k.1)
keeps_on f answer target (m.Terminated d p ∷ said) calls k = (λ no. cc, keeps_on f answer target said (open_after answer target (m.Terminated d p) calls) k.1)
keeps_on f answer target (m.Hello v ∷ said) calls k = keeps_on f answer target said calls k.1
keeps_on f answer target (m.Stdin b ∷ said) calls k = keeps_on f answer target said calls k.1
keeps_on f answer target (m.Stdout b ∷ said) calls k = keeps_on f answer target said calls k.1
keeps_on f answer target (m.Stderr b ∷ said) calls k = keeps_on f answer target said calls k.1
keeps_on f answer target (m.ExitCode c ∷ said) calls k = keeps_on f answer target said calls k.1
keeps_on f answer target (m.Exec d p l ∷ said) calls k = keeps_on f answer target said calls k.1
keeps_on f answer target (m.JustExec d p l ∷ said) calls k = keeps_on f answer target said calls k.1
keeps_on f answer target (m.Connect d p i ∷ said) calls k = keeps_on f answer target said calls k.1
keeps_on f answer target (m.Refused i ∷ said) calls k = keeps_on f answer target said calls k.1

-- ---- what ties the answers that the agent heard to the journal

-- an answer that fits a call which was accepted with this port
abbrev pub FitsAt : ℕ → ℕ → Answer → Type 0
FitsAt t q Waits = Unit {0}
FitsAt t q IsRefused = ⊥
FitsAt t q (At to p) = (to ≡ t) × (p ≡ q)

-- a Terminated of the pair's sender for this port belongs to the pair
abbrev pub IsOwn : Domains → ℕ → ℕ → ℕ → Type 0
IsOwn hub f t q = belongs hub (Ordered f t) (Terminated f t q) ≡ true

abbrev pub IsTied : Domains → ℕ → ℕ → List ℕ → (List ℕ → Answer) → (List ℕ → ℕ) → Event → Decision → Type 0
IsTied hub f t target answer port (Trigger from text service ident) d =
    from ≡ f → (target_of hub text ≡ Some t → bytes_eq text target ≡ true) × ((q : ℕ) → d ≡ Accepted t q → (port ident ≡ q) × FitsAt t q (answer ident) × IsOwn hub f t q)
IsTied hub f t target answer port (Terminated from other q) d = Unit {0}
IsTied hub f t target answer port (Dropped domain) d = domain ≢ f

-- ---- the agent's open calls and the pair's live calls

pub record Holds (hub : Domains) (f t : ℕ) (answer : List ℕ → Answer) (port : List ℕ → ℕ) (s : PairState) (acc calls : List (List ℕ)) : Type 0 where
  pub live : s.live ≡ map port acc
  pub sub : Sub acc calls
  pub fits : Each (λ i. FitsAt t (port i) (answer i) × IsOwn hub f t (port i)) acc
  pub up : has f s.dropped ≡ false

pub record Goes (hub : Domains) (f t : ℕ) (target : List ℕ) (answer : List ℕ → Answer) (port : List ℕ → ℕ) (s : PairState) (rest : List Event) : Type 0 where
  pub acc : List (List ℕ)
  pub calls : List (List ℕ)
  pub holds : Holds hub f t answer port s acc calls
  pub keeps : KeepsOn answer target calls rest

abbrev pub NotFull : Domains → ℕ → ℕ → Event → Decision → Type 0
NotFull hub f t (Trigger from text service ident) d = from ≡ f → target_of hub text ≡ Some t → (n : ℕ) → d ≢ Refused (PairFull n)
NotFull hub f t event d = Unit {0}

-- ---- one event

stays : (hub : Domains) (f t : ℕ) (target : List ℕ) (answer : List ℕ → Answer) (port : List ℕ → ℕ) (s : PairState) (acc calls more : List (List ℕ)) (rest : List Event)
    → Holds hub f t answer port s acc calls → Sub acc more → KeepsOn answer target more rest → Goes hub f t target answer port s rest
stays hub f t target answer port s acc calls more rest h sub keeps =
    record { acc = acc; calls = more; holds = record { live = h.live; sub = sub; fits = h.fits; up = h.up }; keeps = keeps }

-- an opened call is one more, or none
sub_opened : (answer : List ℕ → Answer) (target : List ℕ) (o : Option Asking) (acc calls : List (List ℕ)) → Sub acc calls → Sub acc (opened answer target o calls)
sub_opened answer target None acc calls h = h
sub_opened answer target (Some a) acc calls h = sub_if (bytes_eq a.target target && not (is_refusal (answer a.ident))) a.ident acc calls h

-- a call that was accepted with another port isn't ended
other_port : (t domain q port : ℕ) (a : Answer) → FitsAt t port a → not (port == q) ≡ true → not (is_at domain q a) ≡ true
other_port t domain q port Waits h e = refl
other_port t domain q port IsRefused h e = absurd h
other_port t domain q port (At to p) h e = let same = h.1 in grind (arith, nat_tests)

-- a Terminated of another pair ends no call of this one
other_pair : (hub : Domains) (f t domain q port : ℕ) (a : Answer) → FitsAt t port a → IsOwn hub f t port → belongs hub (Ordered f t) (Terminated f domain q) ≡ false → not (is_at domain q a) ≡ true
other_pair hub f t domain q port Waits fits own none = refl
other_pair hub f t domain q port IsRefused fits own none = absurd fits
other_pair hub f t domain q port (At to p) fits own none = by_test (domain == to && q == p) refl
  where
    by_test : (b : Bool) → (domain == to && q == p) ≡ b → not b ≡ true
    by_test false is = refl
    by_test true is =
        let a = fits.0 in let c = fits.1 in
        let here : domain ≡ t = grind (arith, nat_tests) in
        let there : q ≡ port = grind (arith, nat_tests) in
        let mine : belongs hub (Ordered f t) (Terminated f domain q) ≡ true = rw (here, there) own in
        cc

-- the pair after a Terminated that took a port out, or found none
own_end : (hub : Domains) (f t : ℕ) (target : List ℕ) (answer : List ℕ → Answer) (port : List ℕ → ℕ) (s : PairState) (acc calls : List (List ℕ)) (other q : ℕ) (rest : List Event)
    → Holds hub f t answer port s acc calls → KeepsOn answer target (filter (λ ident. not (is_at other q (answer ident))) calls) rest → (b : Bool) → has q s.live ≡ b
    → Goes hub f t target answer port (settles s (Terminated f other q) (if b then Ended f t q else PassedOver)) rest
own_end hub f t target answer port s acc calls other q rest h keeps b is = by_test b is
  where
    left : List (List ℕ)
    left = filter (λ x. not (port x == q)) acc

    sub : Sub left (filter (λ ident. not (is_at other q (answer ident))) calls)
    sub = sub_filter (λ x. not (port x == q)) (λ ident. not (is_at other q (answer ident))) acc calls h.sub
        (each_weaker (λ i. FitsAt t (port i) (answer i) × IsOwn hub f t (port i)) _ (λ i fits e. other_port t other q (port i) (answer i) fits.0 e) acc h.fits)

    taken : filter (λ p. not (p == q)) s.live ≡ map port left
    taken = rw h.live (without_map port q acc)

    by_test : (b' : Bool) → has q s.live ≡ b' → Goes hub f t target answer port (settles s (Terminated f other q) (if b' then Ended f t q else PassedOver)) rest
    by_test true e = record { acc = left; calls = _; holds = record { live = taken; sub = sub; fits = each_filter _ (λ x. not (port x == q)) acc h.fits; up = h.up }; keeps = keeps }
    by_test false e = record { acc = left; calls = _; holds = record { live = sym (without_none q s.live e) ∙ taken; sub = sub; fits = each_filter _ (λ x. not (port x == q)) acc h.fits; up = h.up }; keeps = keeps }

-- a Terminated of the other domain
other_end : (hub : Domains) (f t : ℕ) (target : List ℕ) (answer : List ℕ → Answer) (port : List ℕ → ℕ) (s : PairState) (acc calls : List (List ℕ)) (from other q : ℕ) (rest : List Event)
    → Holds hub f t answer port s acc calls → KeepsOn answer target calls rest → (a b : Bool)
    → Goes hub f t target answer port (settles s (Terminated from other q) (if a then PassedOver else if b then Ended f t q else PassedOver)) rest
other_end hub f t target answer port s acc calls from other q rest h keeps true b = stays hub f t target answer port s acc calls calls rest h h.sub keeps
other_end hub f t target answer port s acc calls from other q rest h keeps false false = stays hub f t target answer port s acc calls calls rest h h.sub keeps
other_end hub f t target answer port s acc calls from other q rest h keeps false true = record {
  acc = filter (λ x. not (port x == q)) acc;
  calls = calls;
  holds = record { live = rw h.live (without_map port q acc); sub = sub_all (λ x. not (port x == q)) acc calls h.sub; fits = each_filter _ (λ x. not (port x == q)) acc h.fits; up = h.up };
  keeps = keeps;
}

on_terminated : (hub : Domains) (f t : ℕ) (target : List ℕ) (answer : List ℕ → Answer) (port : List ℕ → ℕ) (s : PairState) (acc calls : List (List ℕ)) (from other q : ℕ) (rest : List Event)
    → Holds hub f t answer port s acc calls → (a : Bool) → (from == f) ≡ a → KeepsOn answer target calls (if a then Terminated from other q ∷ rest else rest)
    → (b : Bool) → belongs hub (Ordered f t) (Terminated from other q) ≡ b
    → Goes hub f t target answer port (if b then settles s (Terminated from other q) (decides hub (Ordered f t) s (Terminated from other q)) else s) rest
on_terminated hub f t target answer port s acc calls from other q rest h false apart keeps false none = stays hub f t target answer port s acc calls calls rest h h.sub keeps
on_terminated hub f t target answer port s acc calls from other q rest h false apart keeps true own =
    other_end hub f t target answer port s acc calls from other q rest h keeps (has from s.dropped) (has q s.live)
on_terminated hub f t target answer port s acc calls from other q rest h true same keeps true own =
    let is : from ≡ f = grind (arith, nat_tests, same) in
    rw (is, h.up) (own_end hub f t target answer port s acc calls other q rest h keeps.1 (has q s.live) refl)
on_terminated hub f t target answer port s acc calls from other q rest h true same keeps false none =
    let is : from ≡ f = grind (arith, nat_tests, same) in
    let none' : belongs hub (Ordered f t) (Terminated f other q) ≡ false = rw is at none in
    let kept = sub_kept (λ ident. not (is_at other q (answer ident))) acc calls h.sub
    (each_weaker (λ i. FitsAt t (port i) (answer i) × IsOwn hub f t (port i)) _ (λ i fits. other_pair hub f t other q (port i) (answer i) fits.0 fits.1 none') acc h.fits) in
    stays hub f t target answer port s acc calls _ rest h kept keeps.1

on_dropped : (hub : Domains) (f t : ℕ) (target : List ℕ) (answer : List ℕ → Answer) (port : List ℕ → ℕ) (s : PairState) (acc calls : List (List ℕ)) (domain : ℕ) (rest : List Event)
    → Holds hub f t answer port s acc calls → domain ≢ f → KeepsOn answer target calls rest → (b : Bool)
    → Goes hub f t target answer port (if b then settles s (Dropped domain) PassedOver else s) rest
on_dropped hub f t target answer port s acc calls domain rest h apart keeps false = stays hub f t target answer port s acc calls calls rest h h.sub keeps
on_dropped hub f t target answer port s acc calls domain rest h apart keeps true =
    let no : (domain == f) ≡ false = grind (arith, nat_tests) in
    record { acc = []; calls = calls; holds = record { live = refl; sub = tt; fits = tt; up = rw (no, h.up) refl }; keeps = keeps }

-- ---- a trigger

fits_open : (t q : ℕ) (a : Answer) → FitsAt t q a → is_refusal a ≡ false
fits_open t q Waits h = refl
fits_open t q IsRefused h = absurd h
fits_open t q (At to p) h = refl

abbrev Tie : Domains → ℕ → ℕ → (List ℕ → Answer) → (List ℕ → ℕ) → List ℕ → Decision → Type 0
Tie hub f t answer port ident d = (q : ℕ) → d ≡ Accepted t q → (port ident ≡ q) × FitsAt t q (answer ident) × IsOwn hub f t q

abbrev asked : List ℕ → List ℕ → List ℕ → Asking
asked text service ident = record { target = text; service = service; ident = ident }

abbrev Went : Domains → ℕ → ℕ → List ℕ → (List ℕ → Answer) → (List ℕ → ℕ) → PairState → Event → Decision → List Event → Type 0
Went hub f t target answer port s e d rest = ((n : ℕ) → d ≢ Refused (PairFull n)) × Goes hub f t target answer port (settles s e d) rest

own_trigger : (hub : Domains) (f t : ℕ) (target : List ℕ) (answer : List ℕ → Answer) (port : List ℕ → ℕ) (s : PairState) (acc calls : List (List ℕ)) (text service ident : List ℕ) (rest : List Event)
    → Holds hub f t answer port s acc calls → bytes_eq text target ≡ true → length s.live < 16 → KeepsOn answer target (opened answer target (Some (asked text service ident)) calls) rest
    → Tie hub f t answer port ident (rest_of hub s f t service) → Went hub f t target answer port s (Trigger f text service ident) (rest_of hub s f t service) rest
own_trigger hub f t target answer port s acc calls text service ident rest h same few keeps = by_tests (is_service service) (has t s.dropped) (nat_le 16 (length s.live)) (nat_le (pages_of hub f t) s.calls) full
  where
    full : nat_le 16 (length s.live) ≡ true → ⊥
    full is = grind (arith, nat_tests, is, few)

    kept : Goes hub f t target answer port s rest
    kept = stays hub f t target answer port s acc calls _ rest h (sub_opened answer target (Some (asked text service ident)) acc calls h.sub) keeps

    taken : (q : ℕ) → (port ident ≡ q) × FitsAt t q (answer ident) × IsOwn hub f t q → Goes hub f t target answer port (record s { live = q ∷ s.live; calls = s.calls + 1 }) rest
    taken q tie =
        let open_now = fits_open t q (answer ident) tie.1 in
        let kept' : KeepsOn answer target (ident ∷ calls) rest = rw (same, open_now) at keeps in
        let there = tie.0 in let live = h.live in
        record {
          acc = ident ∷ acc;
          calls = ident ∷ calls;
          holds = record { live = rw there (ap (λ r. q ∷ r) live); sub = inl (refl, h.sub); fits = (rw there (tie.1, tie.2), h.fits); up = h.up };
          keeps = kept';
        }

    by_tests : (a b c d : Bool) → (c ≡ true → ⊥) →
        let is : Decision = if not a then Refused NoService else if b then Refused TargetDropped else if c then Refused (PairFull (length s.live)) else if d then Refused (PortsSpent (port_after f t s.calls)) else Accepted t (port_after f t s.calls) in
        Tie hub f t answer port ident is → Went hub f t target answer port s (Trigger f text service ident) is rest
    by_tests false b c d never tie = (λ n e. cc, kept)
    by_tests true true c d never tie = (λ n e. cc, kept)
    by_tests true false true d never tie = absurd (never refl)
    by_tests true false false true never tie = (λ n e. cc, kept)
    by_tests true false false false never tie = (λ n e. cc, taken (port_after f t s.calls) (tie (port_after f t s.calls) refl))

other_sender : (f t from : ℕ) (o : Option ℕ) → (from == f) ≡ false → is_pair (towards from o) (Ordered f t) ≡ false
other_sender f t from None apart = refl
other_sender f t from (Some to) apart = by_self (to == from)
  where
    by_self : (b : Bool) → is_pair (if b then Alone from else Ordered from to) (Ordered f t) ≡ false
    by_self true = refl
    by_self false = rw apart refl

pub record IsEntryFine (hub : Domains) (f t : ℕ) (target : List ℕ) (answer : List ℕ → Answer) (port : List ℕ → ℕ) (before : List Event) (e : Event) (d : Decision) (rest : List Event) : Type 0 where
  pub not_full : NotFull hub f t e d
  pub goes : Goes hub f t target answer port (step hub (Ordered f t) (state_after hub before (Ordered f t)) e) rest

on_trigger : (hub : Domains) (f t : ℕ) → f ≢ t → (target : List ℕ) (answer : List ℕ → Answer) (port : List ℕ → ℕ) (before : List Event) (acc calls : List (List ℕ)) (text service ident : List ℕ) (rest : List Event)
    → Holds hub f t answer port (state_after hub before (Ordered f t)) acc calls
    → (target_of hub text ≡ Some t → bytes_eq text target ≡ true) → Tie hub f t answer port ident (decision hub before (Trigger f text service ident))
    → (bytes_eq text target ≡ true → length calls < 16) → KeepsOn answer target (opened answer target (Some (asked text service ident)) calls) rest
    → IsEntryFine hub f t target answer port before (Trigger f text service ident) (decision hub before (Trigger f text service ident)) rest
on_trigger hub f t apart target answer port before acc calls text service ident rest h named tie few keeps = by_target (target_of hub text) refl
  where
    s : PairState
    s = state_after hub before (Ordered f t)

    e : Event
    e = Trigger f text service ident

    Fine : Type 0
    Fine = IsEntryFine hub f t target answer port before e (decision hub before e) rest

    kept : Goes hub f t target answer port s rest
    kept = stays hub f t target answer port s acc calls _ rest h (sub_opened answer target (Some (asked text service ident)) acc calls h.sub) keeps

    alone : (target_of hub text ≡ Some t → ⊥) → is_pair (towards f (target_of hub text)) (Ordered f t) ≡ false → Fine
    alone never none =
        let same : step hub (Ordered f t) s e ≡ s = ap (λ b. if b then settles s e (decides hub (Ordered f t) s e) else s) none in
        record { not_full = λ is_f is n bad. absurd (never is); goes = rw same kept }

    own : target_of hub text ≡ Some t → Fine
    own is =
        let self : (t == f) ≡ false = grind (arith, nat_tests) in
        let ff : (f == f) ≡ true = grind (arith, nat_tests) in
        let tt' : (t == t) ≡ true = grind (arith, nat_tests) in
        let decided : decision hub before e ≡ rest_of hub s f t service = rw (is, self, h.up) refl in
        let stepped : step hub (Ordered f t) s e ≡ settles s e (rest_of hub s f t service) = rw (is, self, h.up, ff, tt') refl in
        let same = named is in
        let long : length s.live ≡ length acc = ap length h.live ∙ length-map acc port in
        let fewer = length_sub acc calls h.sub in
        let less = few same in
        let tie' : Tie hub f t answer port ident (rest_of hub s f t service) = λ q at. tie q (decided ∙ at) in
        let went = own_trigger hub f t target answer port s acc calls text service ident rest h same (omega (arith, long, fewer, less)) keeps tie' in
        record { not_full = λ is_f named' n bad. went.0 n (sym decided ∙ bad); goes = rw stepped went.1 }

    by_pair : (to : ℕ) → target_of hub text ≡ Some to → (to == f) ≡ false → (b : Bool) → (to == t) ≡ b → Fine
    by_pair to is self true same = let there : to ≡ t = grind (arith, nat_tests, same) in own (is ∙ ap Some there)
    by_pair to is self false other =
        alone (λ named'. let there : to ≡ t = let both : Some to ≡ Some t = sym is ∙ named' in cc in let no : (to == t) ≡ true = grind (arith, nat_tests) in cc)
        (let ff : (f == f) ≡ true = grind (arith, nat_tests) in rw (is, self, ff, other) refl)

    by_self : (to : ℕ) → target_of hub text ≡ Some to → (b : Bool) → (to == f) ≡ b → Fine
    by_self to is true self =
        alone (λ named'. let there : to ≡ t = let both : Some to ≡ Some t = sym is ∙ named' in cc in let here : to ≡ f = grind (arith, nat_tests, self) in apart (sym here ∙ there)) (rw (is, self) refl)
    by_self to is false self = by_pair to is self (to == t) refl

    by_target : (o : Option ℕ) → target_of hub text ≡ o → Fine
    by_target None is = alone (λ named'. let no : None ≡ Some t = sym is ∙ named' in cc) (let e' = is in rw is refl)
    by_target (Some to) is = by_self to is (to == f) refl

-- an event of the journal
on_event : (hub : Domains) (f t : ℕ) → f ≢ t → (target : List ℕ) (answer : List ℕ → Answer) (port : List ℕ → ℕ) (before : List Event) (acc calls : List (List ℕ)) (e : Event) (rest : List Event)
    → Holds hub f t answer port (state_after hub before (Ordered f t)) acc calls → IsTied hub f t target answer port e (decision hub before e)
    → KeepsOn answer target calls (if is_from f e then e ∷ rest else rest)
    → IsEntryFine hub f t target answer port before e (decision hub before e) rest
on_event hub f t apart target answer port before acc calls (Dropped domain) rest h tied keeps =
    record { not_full = tt; goes = on_dropped hub f t target answer port (state_after hub before (Ordered f t)) acc calls domain rest h tied keeps (is_of domain (Ordered f t)) }
on_event hub f t apart target answer port before acc calls (Terminated from other q) rest h tied keeps =
    record { not_full = tt; goes = on_terminated hub f t target answer port (state_after hub before (Ordered f t)) acc calls from other q rest h (from == f) refl keeps (belongs hub (Ordered f t) (Terminated from other q)) refl }
on_event hub f t apart target answer port before acc calls (Trigger from text service ident) rest h tied keeps = by_sender (from == f) refl keeps
  where
    s : PairState
    s = state_after hub before (Ordered f t)

    by_sender : (b : Bool) → (from == f) ≡ b → KeepsOn answer target calls (if b then Trigger from text service ident ∷ rest else rest)
        → IsEntryFine hub f t target answer port before (Trigger from text service ident) (decision hub before (Trigger from text service ident)) rest
    by_sender false other keeps' =
        let none = other_sender f t from (target_of hub text) other in
        let same : step hub (Ordered f t) s (Trigger from text service ident) ≡ s = ap (λ b. if b then settles s (Trigger from text service ident) (decides hub (Ordered f t) s (Trigger from text service ident)) else s) none in
        record {
          not_full = λ is. let no : (from == f) ≡ true = grind (arith, nat_tests) in cc;
          goes = rw same (stays hub f t target answer port s acc calls calls rest h h.sub keeps');
        }
    by_sender true same keeps' =
        let is : from ≡ f = grind (arith, nat_tests, same) in
        let tie = tied is in
        let P : ℕ → Type 0 = λ x. Tie hub f t answer port ident (decision hub before (Trigger x text service ident)) → IsEntryFine hub f t target answer port before (Trigger x text service ident) (decision hub before (Trigger x text service ident)) rest in
        subst P (sym is) (λ tie'. on_trigger hub f t apart target answer port before acc calls text service ident rest h tie.0 tie' keeps'.0 keeps'.1) tie.1

-- Of each entry of a journal: while the agent keeps to sixteen open calls, and the answers that it heard are tied to the journal, none of its
-- triggers to the other domain is refused as PairFull.
pub limits_kept : (hub : Domains) (f t : ℕ) → f ≢ t → (target : List ℕ) (answer : List ℕ → Answer) (port : List ℕ → ℕ) (journal : List Entry) (before : List Event) (acc calls : List (List ℕ))
    → Holds hub f t answer port (state_after hub before (Ordered f t)) acc calls → IsDecidedOn hub before journal → Each (λ x. IsTied hub f t target answer port x.event x.decision) journal
    → KeepsOn answer target calls (filter (is_from f) (events journal)) → Each (λ x. NotFull hub f t x.event x.decision) journal
limits_kept hub f t apart target answer port [] before acc calls h decided tied keeps = tt
limits_kept hub f t apart target answer port (x ∷ journal) before acc calls h decided tied keeps =
    let tied_now : IsTied hub f t target answer port x.event (decision hub before x.event) = rw (← decided.0) tied.0 in
    let now = on_event hub f t apart target answer port before acc calls x.event (filter (is_from f) (events journal)) h tied_now keeps in
    let after = state_after_lem hub (Ordered f t) before x.event in
    let holds : Holds hub f t answer port (state_after hub (before ++ x.event ∷ []) (Ordered f t)) now.goes.acc now.goes.calls = rw after now.goes.holds in
    (rw decided.0 now.not_full, limits_kept hub f t apart target answer port journal (before ++ x.event ∷ []) now.goes.acc now.goes.calls holds decided.1 tied.1 now.goes.keeps)
