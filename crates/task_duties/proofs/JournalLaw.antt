-- The triggers of a domain: in its journal, in what the broker read, and in what it sent.
use Rattle.std.proofs.Common.{◌≡◌, ℕ, suc, zero, List, [], ◌∷◌, ◌++◌, take, map, refl, ap, sym, ◌∙◌, Option, Some, None}
use Rattle.std.specs.Prelude.{true, false, Bool, ◌==◌, filter_map, option_map, if◌then◌else◌}
use Rattle.std.proofs.lemmas.List.Elements.{filter_map-append}
use Rattle.list_laws.specs.Lists.{IsPrefixOf}
use Rattle.qrexec_frame.specs.declared.message.Message.{Message}
use Rattle.qrexec_frame.specs.declared.message.Message.TheVariants as m
use Rattle.call_broker.specs.declared.decision.Entry.{Entry}
use Rattle.call_broker.specs.declared.event.Event.{Event}
use Rattle.call_broker.specs.declared.event.Event.TheVariants.{Trigger, Terminated, Dropped}
use Rattle.task_duties.specs.Agent.Saying.{Asking, asking, KeepsTo, open_after}
use Rattle.task_duties.specs.Agent.Answers.{Answer}
use Rattle.task_duties.specs.Broker.Outbox.{event_of, read_from}
use Rattle.task_duties.proofs.LimitLaw.{asking_event}

-- what an event of the domain asks for
abbrev pub asked_event : ℕ → Event → Option Asking
asked_event d (Trigger from target service ident) = if from == d then Some (record { target = target; service = service; ident = ident }) else None
asked_event d event = None

abbrev pub asked_in : List Entry → ℕ → List Asking
asked_in journal d = filter_map (λ x. asked_event d x.event) journal

pub asked_read : (d : ℕ) (journal : List Entry) → asked_in journal d ≡ filter_map asking_event (read_from journal d)
asked_read d [] = refl
asked_read d (x ∷ journal) = by_event x.event refl (asked_read d journal)
  where
    by_event : (e : Event) → x.event ≡ e → asked_in journal d ≡ filter_map asking_event (read_from journal d) → asked_in (x ∷ journal) d ≡ filter_map asking_event (read_from (x ∷ journal) d)
    by_event (Trigger from target service ident) is more = by_test (from == d) refl more
      where
        by_test : (b : Bool) → (from == d) ≡ b → asked_in journal d ≡ filter_map asking_event (read_from journal d) → asked_in (x ∷ journal) d ≡ filter_map asking_event (read_from (x ∷ journal) d)
        by_test true here more' = rw (is, here) (ap (λ r. record { target = target; service = service; ident = ident } ∷ r) more')
        by_test false here more' = rw (is, here) more'
    by_event (Terminated from other port) is more = rw is (by_test (from == d) more)
      where
        by_test : (b : Bool) → asked_in journal d ≡ filter_map asking_event (read_from journal d)
            → asked_in journal d ≡ filter_map asking_event (if b then Terminated from other port ∷ read_from journal d else read_from journal d)
        by_test true more' = more'
        by_test false more' = more'
    by_event (Dropped domain) is more = rw is more

pub asked_said : (d : ℕ) (said : List Message) → filter_map asking_event (filter_map (event_of d) said) ≡ filter_map asking said
asked_said d [] = refl
asked_said d (m.Trigger3 t i s ∷ said) = ap (λ r. record { target = t; service = s; ident = i } ∷ r) (asked_said d said)
asked_said d (m.Trigger t i s ∷ said) = ap (λ r. record { target = t; service = s; ident = i } ∷ r) (asked_said d said)
asked_said d (x ∷ said) = asked_said d said

take_prefix : {A : Type 0} (k : ℕ) (xs : List A) → IsPrefixOf (take k xs) xs
take_prefix zero xs = (xs, refl)
take_prefix (suc k) [] = ([], refl)
take_prefix (suc k) (x ∷ xs) = let p = take_prefix k xs in (p.0, ap (λ r. x ∷ r) p.1)

-- of the first few messages the triggers are the first few
pub asked_first : (k : ℕ) (said : List Message) → IsPrefixOf (filter_map asking (take k said)) (filter_map asking said)
asked_first k said = let p = take_prefix k said in (filter_map asking p.0, sym (filter_map-append asking (take k said) p.0) ∙ ap (filter_map asking) p.1)

map_both : {A B : Type 0} (f : A → B) (xs ys : List A) → map f (xs ++ ys) ≡ map f xs ++ map f ys
map_both f [] ys = refl
map_both f (x ∷ xs) ys = ap (λ r. f x ∷ r) (map_both f xs ys)

pub prefix_map : {A B : Type 0} (f : A → B) (xs ys : List A) → IsPrefixOf xs ys → IsPrefixOf (map f xs) (map f ys)
prefix_map f xs ys p = (map f p.0, sym (map_both f xs p.0) ∙ ap (map f) p.1)

pub filter_map_map : {A B C : Type 0} (f : B → C) (g : A → Option B) (xs : List A) → filter_map (λ x. option_map f (g x)) xs ≡ map f (filter_map g xs)
filter_map_map f g [] = refl
filter_map_map {A} {B} {C} f g (x ∷ xs) = by_option (g x) refl (filter_map_map f g xs)
  where
    by_option : (o : Option B) → g x ≡ o → filter_map (λ y. option_map f (g y)) xs ≡ map f (filter_map g xs) → filter_map (λ y. option_map f (g y)) (x ∷ xs) ≡ map f (filter_map g (x ∷ xs))
    by_option None is more = rw is more
    by_option (Some b) is more = rw is (ap (λ r. f b ∷ r) more)

-- an agent keeps to its limit in the first few messages
pub keeps_first : (answer : List ℕ → Answer) (target : List ℕ) (k : ℕ) (said : List Message) (calls : List (List ℕ)) → KeepsTo answer target calls said → KeepsTo answer target calls (take k said)
keeps_first answer target zero said calls h = by_said said
  where
    by_said : (ms : List Message) → KeepsTo answer target calls (take 0 ms)
    by_said [] = tt
    by_said (x ∷ ms) = tt
keeps_first answer target (suc k) [] calls h = tt
keeps_first answer target (suc k) (x ∷ said) calls h = (h.0, keeps_first answer target k said (open_after answer target x calls) h.1)
