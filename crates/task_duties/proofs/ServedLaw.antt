-- If no two messages name one end, and each names an end that is unused, each Exec of a service is served.
use Rattle.std.proofs.Common.{◌≡◌, ◌≢◌, ℕ, List, [], ◌∷◌, refl, ap, sym, ◌∙◌, arith, inl, inr, Option, Some, None}
use Rattle.std.specs.Prelude.{true, false, Bool, ◌==◌, ◌&&◌, ◌||◌, Contains}
use Rattle.std.specs.List.{list_any, AllByRecursion as Each}
use Rattle.std.proofs.lemmas.Bool.Decides.{nat_tests}
use Rattle.std.proofs.lemmas.List.Elements.{Contains-append_left, Contains-push}
use Rattle.std.proofs.lemmas.Bool.{and_parts}
use Rattle.list_laws.specs.Lists.{SomeOf}
use Rattle.qrexec_frame.specs.declared.message.Message.{Message}
use Rattle.qrexec_frame.specs.declared.message.Message.TheVariants.{Hello, Exec, JustExec, Connect, Refused, Terminated, Trigger3, Trigger, Stdin, Stdout, Stderr, ExitCode}
use Rattle.task_duties.specs.declared.place.PagePlace.{PagePlace}
use Rattle.task_duties.specs.declared.place.PagePlace.TheVariants.{Control, Payload}
use Rattle.task_duties.specs.Words.{service_of_line}
use Rattle.task_duties.specs.Agent.Answers.{Answers, Served, waits_as, serves, takes, takes_all}
use Rattle.task_duties.specs.Places.{is_place, has_place, without}

-- the end that a message names
abbrev pub names : ℕ → Message → Option PagePlace
names d (Exec from port line) = Some (Payload from d port)
names d (Connect to port ident) = Some (Payload d to port)
names d m = None

abbrev pub AreApart : ℕ → List Message → Type 0
AreApart d [] = Unit {0}
AreApart d (m ∷ ms) = ((place : PagePlace) → names d m ≡ Some place → Each (λ n. names d n ≢ Some place) ms) × AreApart d ms

abbrev pub IsUnusedBy : ℕ → List PagePlace → Message → Type 0
IsUnusedBy d unused m = (place : PagePlace) → names d m ≡ Some place → has_place place unused ≡ true

pub same_place : (p q : PagePlace) → is_place p q ≡ true → p ≡ q
same_place (Control d) (Control e) h = let same : d ≡ e = grind (arith, nat_tests, h) in ap Control same
same_place (Payload f t p) (Payload g u q) h =
    let first = and_parts (f == g && t == u) (p == q) h in
    let second = and_parts (f == g) (t == u) first.0 in
    let a : f ≡ g = grind (arith, nat_tests, second.0) in
    let b : t ≡ u = grind (arith, nat_tests, second.1) in
    let c : p ≡ q = grind (arith, nat_tests, first.1) in
    cc
same_place (Control d) (Payload f t p) h = cc
same_place (Payload f t p) (Control d) h = cc

-- another place stays if one is taken out
still_there : (taken place : PagePlace) → taken ≢ place → (places : List PagePlace) → has_place place places ≡ true → has_place place (without taken places) ≡ true
still_there taken place apart [] h = cc
still_there taken place apart (p ∷ places) h = by_here (is_place place p) refl (is_place taken p) refl h (still_there taken place apart places)
  where
    by_here : (b : Bool) → is_place place p ≡ b → (c : Bool) → is_place taken p ≡ c → (b || has_place place places) ≡ true
        → (has_place place places ≡ true → has_place place (without taken places) ≡ true) → has_place place (without taken (p ∷ places)) ≡ true
    by_here true is true gone h' more = absurd (apart (same_place taken p gone ∙ sym (same_place place p is)))
    by_here true is false stays h' more = rw (stays, is) refl
    by_here false is true gone h' more = rw gone (more h')
    by_here false is false stays h' more = rw (stays, is) (more h')

-- one message leaves every end that it doesn't name unused, and each Exec served
pub record Keeps (d : ℕ) (a : Answers) (m : Message) (after : Answers) : Type 0 where
  pub unused : (place : PagePlace) → names d m ≢ Some place → has_place place a.unused ≡ true → has_place place after.unused ≡ true
  pub served : (x : Served) → Contains a.served x → Contains after.served x

same_keeps : (d : ℕ) (a : Answers) (m : Message) → Keeps d a m a
same_keeps d a m = record { unused = λ place other h. h; served = λ x h. h }

on_exec : (d from port : ℕ) (line : List ℕ) (o : Option (List ℕ)) (a : Answers) → Keeps d a (Exec from port line) (serves d from port o a)
on_exec d from port line None a = same_keeps d a (Exec from port line)
on_exec d from port line (Some service) a = by_place (has_place (Payload from d port) a.unused) refl
  where
    by_place : (b : Bool) → has_place (Payload from d port) a.unused ≡ b → Keeps d a (Exec from port line) (serves d from port (Some service) a)
    by_place true is = rw is (record {
      unused = λ place other h. still_there (Payload from d port) place (λ same. other (ap Some same)) a.unused h;
      served = λ x h. Contains-append_left a.served _ x h;
    })
    by_place false is = rw is (same_keeps d a (Exec from port line))

on_connect : (d to port : ℕ) (ident : List ℕ) (a : Answers) → Keeps d a (Connect to port ident) (takes d a (Connect to port ident))
on_connect d to port ident a = by_test (list_any (waits_as ident) a.asked && has_place (Payload d to port) a.unused) refl
  where
    by_test : (b : Bool) → (list_any (waits_as ident) a.asked && has_place (Payload d to port) a.unused) ≡ b → Keeps d a (Connect to port ident) (takes d a (Connect to port ident))
    by_test true is = rw is (record { unused = λ place other h. still_there (Payload d to port) place (λ same. other (ap Some same)) a.unused h; served = λ x h. h })
    by_test false is = rw is (same_keeps d a (Connect to port ident))

on_message : (d : ℕ) (a : Answers) (m : Message) → Keeps d a m (takes d a m)
on_message d a (Exec from port line) = on_exec d from port line (service_of_line line) a
on_message d a (Connect to port ident) = on_connect d to port ident a
on_message d a (Refused ident) = record { unused = λ place other h. h; served = λ x h. h }
on_message d a (JustExec from port line) = same_keeps d a (JustExec from port line)
on_message d a (Hello version) = same_keeps d a (Hello version)
on_message d a (Terminated domain port) = same_keeps d a (Terminated domain port)
on_message d a (Trigger3 target ident service) = same_keeps d a (Trigger3 target ident service)
on_message d a (Trigger target ident service) = same_keeps d a (Trigger target ident service)
on_message d a (Stdin bytes) = same_keeps d a (Stdin bytes)
on_message d a (Stdout bytes) = same_keeps d a (Stdout bytes)
on_message d a (Stderr bytes) = same_keeps d a (Stderr bytes)
on_message d a (ExitCode code) = same_keeps d a (ExitCode code)

pub unused_after : (d : ℕ) (a : Answers) (m : Message) (ms : List Message) → ((place : PagePlace) → names d m ≡ Some place → Each (λ n. names d n ≢ Some place) ms)
    → Each (IsUnusedBy d a.unused) ms → Each (IsUnusedBy d (takes d a m).unused) ms
unused_after d a m [] apart each = tt
unused_after d a m (n ∷ ms) apart each =
    (λ place named. (on_message d a m).unused place (λ same. (apart place same).0 named) (each.0 place named), unused_after d a m ms (λ place same. (apart place same).1) each.1)

pub served_stays : (d : ℕ) (a : Answers) (ms : List Message) (x : Served) → Contains a.served x → Contains (takes_all d a ms).served x
served_stays d a [] x h = h
served_stays d a (m ∷ ms) x h = served_stays d (takes d a m) ms x ((on_message d a m).served x h)

pub serves_each : (d from port : ℕ) (line service : List ℕ) → service_of_line line ≡ Some service → (a : Answers) (ms : List Message) → AreApart d ms → Each (IsUnusedBy d a.unused) ms
    → SomeOf (λ m. m ≡ Exec from port line) ms → Contains (takes_all d a ms).served (record { from = from; port = port; service = service })
serves_each d from port line service is a [] apart each there = absurd there
serves_each d from port line service is a (m ∷ ms) apart each (inl here) = served_stays d (takes d a m) ms _ now
  where
    free : has_place (Payload from d port) a.unused ≡ true
    free = each.0 (Payload from d port) (ap (names d) here)

    now : Contains (takes d a m).served (record { from = from; port = port; service = service })
    now = rw here (rw (is, free) (Contains-push a.served _))
serves_each d from port line service is a (m ∷ ms) apart each (inr later) =
    serves_each d from port line service is (takes d a m) ms apart.1 (unused_after d a m ms apart.0 each.1) later
