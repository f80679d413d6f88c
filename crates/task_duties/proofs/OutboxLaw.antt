-- What stands in an outbox: which entry put it there, and that no two of its messages name one end.
use Rattle.std.proofs.Common.{◌≡◌, ◌≢◌, ℕ, ◌+◌, ◌≤◌, List, [], ◌∷◌, ◌++◌, refl, ap, sym, ◌∙◌, arith, ◌⊎◌, inl, inr, Option, Some, None, subst}
use Rattle.std.specs.Prelude.{true, false, Bool, ◌==◌, ◌&&◌, if◌then◌else◌}
use Rattle.std.proofs.lemmas.Bool.Decides.{nat_tests}
use Rattle.std.specs.List.{AllByRecursion as Each}
use Rattle.std.proofs.lemmas.Bool.{and_parts}
use Rattle.list_laws.specs.Lists.{IsPartOf, AreDifferent}
use Rattle.qrexec_frame.specs.Names.{cleaned_service}
use Rattle.qrexec_frame.specs.declared.message.Message.{Message}
use Rattle.qrexec_frame.specs.declared.message.Message.TheVariants as m
use Rattle.call_broker.specs.declared.decision.Entry.{Entry}
use Rattle.call_broker.specs.declared.event.Event.{Event}
use Rattle.call_broker.specs.declared.event.Event.TheVariants.{Trigger, Terminated, Dropped}
use Rattle.call_broker.specs.declared.decision.Cause.{Cause}
use Rattle.call_broker.specs.declared.decision.Decision.{Decision}
use Rattle.call_broker.specs.declared.decision.Decision.TheVariants.{Accepted, Refused, Ended, PassedOver}
use Rattle.call_broker.specs.Domains.{Domains, name_of}
use Rattle.call_broker.specs.Journal.{port_in, accepted_ports}
use Rattle.call_broker.specs.Laws.{AcceptsWell}
use Rattle.task_duties.specs.declared.place.PagePlace.{PagePlace}
use Rattle.task_duties.specs.declared.place.PagePlace.TheVariants.{Control, Payload}
use Rattle.task_duties.specs.Words.{exec_line}
use Rattle.task_duties.specs.Places.{is_place}
use Rattle.task_duties.specs.Broker.Outbox.{only_if, puts, outbox}
use Rattle.task_duties.proofs.Elements.{Has, Comes, has_append, has_flat_map, tally, tally_append, tally_part, tally_none, tally_zero}
use Rattle.task_duties.proofs.ServedLaw.{names, AreApart}
use Rattle.task_duties.proofs.Places.{same_self}

-- ---- the entry of a message

pub record IsConnect (d to port : ℕ) (ident : List ℕ) (e : Event) (decision : Decision) : Type 0 where
  pub target : List ℕ
  pub service : List ℕ
  pub event : e ≡ Trigger d target service ident
  pub accepted : decision ≡ Accepted to port

pub record IsExec (hub : Domains) (d from port : ℕ) (line : List ℕ) (e : Event) (decision : Decision) : Type 0 where
  pub target : List ℕ
  pub service : List ℕ
  pub ident : List ℕ
  pub event : e ≡ Trigger from target service ident
  pub accepted : decision ≡ Accepted d port
  pub line_is : line ≡ exec_line (cleaned_service service) (name_of hub from)

pub record IsRefusal (d : ℕ) (ident : List ℕ) (e : Event) (decision : Decision) : Type 0 where
  pub target : List ℕ
  pub service : List ℕ
  pub cause : Cause
  pub event : e ≡ Trigger d target service ident
  pub refused : decision ≡ Refused cause

abbrev pub PutBy : Domains → ℕ → Event → Decision → Message → Type 0
PutBy hub d e decision (m.Connect to port ident) = IsConnect d to port ident e decision
PutBy hub d e decision (m.Exec from port line) = IsExec hub d from port line e decision
PutBy hub d e decision (m.Refused ident) = IsRefusal d ident e decision
PutBy hub d e decision message = ⊥

only_one : (b : Bool) (n x : Message) → Has (only_if b n) x → (b ≡ true) × (n ≡ x)
only_one true n x (inl h) = (refl, h)
only_one true n x (inr h) = absurd h
only_one false n x h = absurd h

put_by : (hub : Domains) (d : ℕ) (e : Event) (decision : Decision) (x : Message) → Has (puts hub d e decision) x → PutBy hub d e decision x
put_by hub d (Trigger from target service ident) (Accepted to port) x h = by_part (has_append (only_if (d == from) connect) (only_if (d == to) exec) x h)
  where
    connect : Message
    connect = m.Connect to port ident

    exec : Message
    exec = m.Exec from port (exec_line (cleaned_service service) (name_of hub from))

    By : Message → Type 0
    By = PutBy hub d (Trigger from target service ident) (Accepted to port)

    by_part : Has (only_if (d == from) connect) x ⊎ Has (only_if (d == to) exec) x → PutBy hub d (Trigger from target service ident) (Accepted to port) x
    by_part (inl k) =
        let o = only_one (d == from) connect x k in
        let is : from ≡ d = grind (arith, nat_tests, o.0) in
        subst (PutBy hub d (Trigger from target service ident) (Accepted to port)) o.1 (record { target = target; service = service; event = ap (λ f. Trigger f target service ident) is; accepted = refl })
    by_part (inr k) =
        let o = only_one (d == to) exec x k in
        let is : to ≡ d = grind (arith, nat_tests, o.0) in
        subst (PutBy hub d (Trigger from target service ident) (Accepted to port)) o.1 (record { target = target; service = service; ident = ident; event = refl; accepted = ap (λ t. Accepted t port) is; line_is = refl })
put_by hub d (Trigger from target service ident) (Refused cause) x h =
    let o = only_one (d == from) (m.Refused ident) x h in
    let is : from ≡ d = grind (arith, nat_tests, o.0) in
    subst (PutBy hub d (Trigger from target service ident) (Refused cause)) o.1 (record { target = target; service = service; cause = cause; event = ap (λ f. Trigger f target service ident) is; refused = refl })
put_by hub d (Trigger from target service ident) (Ended a b port) x h = absurd h
put_by hub d (Trigger from target service ident) PassedOver x h = absurd h
put_by hub d (Terminated from other port) decision x h = absurd h
put_by hub d (Dropped domain) decision x h = absurd h

pub put_by_entry : (hub : Domains) (journal : List Entry) (d : ℕ) (x : Message) → Has (outbox hub journal d) x → Comes Entry journal (λ y. PutBy hub d y.event y.decision x)
put_by_entry hub journal d x h =
    let c = has_flat_map (λ y. puts hub d y.event y.decision) journal x h in
    record { one = c.one; there = c.there; is = put_by hub d c.one.event c.one.decision x c.is }

-- ---- the ends that messages name

abbrev pub at_place : PagePlace → Option PagePlace → ℕ
at_place place None = 0
at_place place (Some p) = if is_place place p then 1 else 0

abbrev pub names_at : ℕ → PagePlace → Message → ℕ
names_at d place x = at_place place (names d x)

abbrev pub port_count : ℕ → Option ℕ → ℕ
port_count p None = 0
port_count p (Some q) = if q == p then 1 else 0

one_name : (from to port a b p : ℕ) → (if a == from && b == to && p == port then 1 else 0) ≤ port_count p (if from == a && to == b then Some port else None)
one_name from to port a b p = by_test (a == from && b == to && p == port) refl
  where
    by_test : (c : Bool) → (a == from && b == to && p == port) ≡ c → (if c then 1 else 0) ≤ port_count p (if from == a && to == b then Some port else None)
    by_test false is = omega arith
    by_test true is =
        let first = and_parts (a == from && b == to) (p == port) is in
        let second = and_parts (a == from) (b == to) first.0 in
        let x : (from == a) ≡ true = grind (arith, nat_tests, second.0) in
        let y : (to == b) ≡ true = grind (arith, nat_tests, second.1) in
        let z : (port == p) ≡ true = grind (arith, nat_tests, first.1) in
        rw (x, y, z) (omega arith)

entry_names : (hub : Domains) (d a b p : ℕ) (e : Event) (decision : Decision) → AcceptsWell hub e decision
    → tally (names_at d (Payload a b p)) (puts hub d e decision) ≤ port_count p (port_in a b e decision)
entry_names hub d a b p (Trigger from target service ident) (Accepted to port) well = by_tests (d == from) refl (d == to) refl
  where
    connect : Message
    connect = m.Connect to port ident

    exec : Message
    exec = m.Exec from port (exec_line (cleaned_service service) (name_of hub from))

    Goal : Bool → Bool → Type 0
    Goal x y = tally (names_at d (Payload a b p)) (only_if x (m.Connect to port ident) ++ only_if y (m.Exec from port (exec_line (cleaned_service service) (name_of hub from)))) ≤ port_count p (if from == a && to == b then Some port else None)

    by_tests : (x : Bool) → (d == from) ≡ x → (y : Bool) → (d == to) ≡ y
        → tally (names_at d (Payload a b p)) (only_if x (m.Connect to port ident) ++ only_if y (m.Exec from port (exec_line (cleaned_service service) (name_of hub from)))) ≤ port_count p (if from == a && to == b then Some port else None)
    by_tests true is true is' = absurd (well.apart (let u : d ≡ from = grind (arith, nat_tests, is) in let v : d ≡ to = grind (arith, nat_tests, is') in sym u ∙ v))
    by_tests true is false is' = let u : d ≡ from = grind (arith, nat_tests, is) in rw u (let one = one_name from to port a b p in omega (arith, one))
    by_tests false is true is' = let v : d ≡ to = grind (arith, nat_tests, is') in rw v (let one = one_name from to port a b p in omega (arith, one))
    by_tests false is false is' = omega arith
entry_names hub d a b p (Trigger from target service ident) (Refused cause) well = by_test (d == from)
  where
    by_test : (x : Bool) → tally (names_at d (Payload a b p)) (only_if x (m.Refused ident)) ≤ 0
    by_test true = omega arith
    by_test false = omega arith
entry_names hub d a b p (Trigger from target service ident) (Ended f t port) well = omega arith
entry_names hub d a b p (Trigger from target service ident) PassedOver well = omega arith
entry_names hub d a b p (Terminated from other port) decision well = omega arith
entry_names hub d a b p (Dropped domain) decision well = omega arith

abbrev pub is_port : ℕ → ℕ → ℕ
is_port p q = if q == p then 1 else 0

ports_more : (p : ℕ) (o : Option ℕ) (x : Entry) (journal : List Entry) (a b : ℕ) → port_in a b x.event x.decision ≡ o
    → tally (is_port p) (accepted_ports (x ∷ journal) a b) ≡ port_count p o + tally (is_port p) (accepted_ports journal a b)
ports_more p None x journal a b is = rw is (omega arith)
ports_more p (Some q) x journal a b is = rw is refl

outbox_names : (hub : Domains) (d a b p : ℕ) (journal : List Entry) → Each (λ x. AcceptsWell hub x.event x.decision) journal
    → tally (names_at d (Payload a b p)) (outbox hub journal d) ≤ tally (is_port p) (accepted_ports journal a b)
outbox_names hub d a b p [] well = omega arith
outbox_names hub d a b p (x ∷ journal) well =
    let here = entry_names hub d a b p x.event x.decision well.0 in
    let more = outbox_names hub d a b p journal well.1 in
    let both = tally_append (names_at d (Payload a b p)) (puts hub d x.event x.decision) (outbox hub journal d) in
    let ports = ports_more p (port_in a b x.event x.decision) x journal a b refl in
    omega (arith, here, more, both, ports)

is_other : (p : ℕ) (q : ℕ) → q ≢ p → is_port p q ≡ 0
is_other p q apart = let no : (q == p) ≡ false = grind (arith, nat_tests) in rw no refl

others : (x p : ℕ) → (x == p) ≡ true → (xs : List ℕ) → Each (λ (y : ℕ). x ≢ y) xs → Each (λ q. is_port p q ≡ 0) xs
others x p is [] each = tt
others x p is (y ∷ xs) each = (is_other p y (λ e. each.0 (let same : x ≡ p = grind (arith, nat_tests, is) in same ∙ sym e)), others x p is xs each.1)

once : (p : ℕ) (xs : List ℕ) → AreDifferent xs → tally (is_port p) xs ≤ 1
once p [] d = omega arith
once p (x ∷ xs) d = by_test (x == p) refl (once p xs d.1)
  where
    by_test : (c : Bool) → (x == p) ≡ c → tally (is_port p) xs ≤ 1 → (if c then 1 else 0) + tally (is_port p) xs ≤ 1
    by_test true is more = let none = tally_zero (is_port p) xs (others x p is xs d.0) in omega (arith, none)
    by_test false is more = omega (arith, more)

-- messages name control pages never
control_never : (d c : ℕ) (x : Message) → names_at d (Control c) x ≡ 0
control_never d c (m.Exec from port line) = refl
control_never d c (m.Connect to port ident) = refl
control_never d c (m.Refused ident) = refl
control_never d c x = refl

control_none : (d c : ℕ) (xs : List Message) → tally (names_at d (Control c)) xs ≡ 0
control_none d c [] = refl
control_none d c (x ∷ xs) = omega (arith, control_never d c x, control_none d c xs)

abbrev pub NameOnce : ℕ → List Message → Type 0
NameOnce d xs = (place : PagePlace) → tally (names_at d place) xs ≤ 1

pub outbox_once : (hub : Domains) (d : ℕ) (journal : List Entry) → Each (λ x. AcceptsWell hub x.event x.decision) journal
    → ((a b : ℕ) → AreDifferent (accepted_ports journal a b)) → NameOnce d (outbox hub journal d)
outbox_once hub d journal well differ (Control c) = omega (arith, control_none d c (outbox hub journal d))
outbox_once hub d journal well differ (Payload a b p) = omega (arith, outbox_names hub d a b p journal well, once p (accepted_ports journal a b) (differ a b))

pub part_once : (d : ℕ) (some all : List Message) → IsPartOf some all → NameOnce d all → NameOnce d some
part_once d some all part o place = omega (arith, tally_part (names_at d place) some all part, o place)

is_at : (d : ℕ) (place : PagePlace) (x : Message) → names d x ≡ Some place → names_at d place x ≡ 1
is_at d place x named = let s = same_self place in rw (named, s) refl

not_at : (d : ℕ) (place : PagePlace) (xs : List Message) → Each (λ x. names_at d place x ≡ 0) xs → Each (λ x. names d x ≢ Some place) xs
not_at d place [] each = tt
not_at d place (x ∷ xs) each = ((λ named. let one = is_at d place x named in let none = each.0 in absurd (omega (arith, one, none))), not_at d place xs each.1)

pub apart_from : (d : ℕ) (xs : List Message) → NameOnce d xs → AreApart d xs
apart_from d [] o = tt
apart_from d (x ∷ xs) o = (
  (λ place named. not_at d place xs (tally_none (names_at d place) xs (let one = is_at d place x named in let most = o place in omega (arith, one, most)))),
  apart_from d xs (λ place. let most = o place in omega (arith, most)),
)
