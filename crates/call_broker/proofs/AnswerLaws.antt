-- The decision on an event, as the tables tell it.
use Rattle.std.proofs.Common.{◌≡◌, ◌≢◌, ◌⊎◌, inl, inr, ℕ, ◌+◌, ◌-◌, ◌*◌, ◌<◌, ◌≤◌, List, [], length, refl, ap, sym, ◌∙◌, arith, Option, Some, None}
use Rattle.std.specs.Prelude.{true, false, Bool, ◌==◌, ◌&&◌, ◌||◌, not, nat_le, min, max, if◌then◌else◌}
use Rattle.std.specs.List.{list_any}
use Rattle.std.specs.BTreeMap.{BTreeMap}
use Rattle.std.specs.BTreeSet.{BTreeSet}
use Rattle.std.proofs.lemmas.Bool.Decides.{nat_tests}
use Rattle.std.proofs.lemmas.Nat.{mul-add-lt}
use Rattle.std.proofs.lemmas.Bool.{and_parts}
use Rattle.std.proofs.Math.Bool.{or-false, or-true}
use Rattle.list_laws.proofs.Tests.{equal_self}
use Rattle.call_broker.specs.declared.calls.Calls.{Calls}
use Rattle.call_broker.specs.declared.event.Event.{Event}
use Rattle.call_broker.specs.declared.event.Event.TheVariants.{Trigger, Terminated}
use Rattle.call_broker.specs.declared.decision.Cause.TheVariants.{NoDomain, SameDomain, NoService, TargetDropped, PairFull, PortsSpent}
use Rattle.call_broker.specs.declared.decision.Decision.{Decision}
use Rattle.call_broker.specs.declared.decision.Decision.TheVariants.{Accepted, Refused, Ended, PassedOver}
use Rattle.call_broker.specs.Domains.{Domains, is_domain, is_odd, target_of, is_service, pages_of, port_after}
use Rattle.call_broker.specs.Pair.{Pair, Ordered, Alone, has, is_of, towards, by_port, pair_of, takes_call, ends_call, state_after, decision}
use Rattle.call_broker.specs.Journal.{drops}
use Rattle.call_broker.specs.Tables.{calls_at, live_of, number_of, IsTabled}
use Rattle.call_broker.proofs.DroppedLaws.{dropped_is}

-- ---- the place of a pair among the pages

pub page_within : (n from to : ℕ) → (nat_le 1 from && nat_le from n) ≡ true → (nat_le 1 to && nat_le to n) ≡ true → (from - 1) * n + (to - 1) < n * n
page_within n from to of_from of_to =
    let f = and_parts (nat_le 1 from) (nat_le from n) of_from in
    let t = and_parts (nat_le 1 to) (nat_le to n) of_to in
    let f_low : 1 ≤ from = grind (arith, nat_tests, f.0) in
    let f_high : from ≤ n = grind (arith, nat_tests, f.1) in
    let t_low : 1 ≤ to = grind (arith, nat_tests, t.0) in
    let t_high : to ≤ n = grind (arith, nat_tests, t.1) in
    mul-add-lt (from - 1) n (to - 1) n (omega (arith, f_low, f_high)) (omega (arith, t_low, t_high))

-- ---- which domains are of which pair

pub of_caller : (from to : ℕ) → is_of from (Ordered from to) ≡ true
of_caller from to = rw (equal_self from) refl

pub of_target : (from to : ℕ) → is_of to (Ordered from to) ≡ true
of_target from to = rw (equal_self to) (or-true (to == from))

pub of_towards : (from : ℕ) (o : Option ℕ) → is_of from (towards from o) ≡ true
of_towards from None = equal_self from
of_towards from (Some to) = by_test (to == from)
  where
    by_test : (b : Bool) → is_of from (if b then Alone from else Ordered from to) ≡ true
    by_test true = equal_self from
    by_test false = of_caller from to

-- ---- a call from one domain to another

pub target_gone : (hub : Domains) (es : List Event) (from to : ℕ) → list_any (drops to) es ≡ true → Refused TargetDropped ≡ takes_call hub (state_after hub es (Ordered from to)) from to
target_gone hub es from to gone = rw (dropped_is hub (Ordered from to) to es (of_target from to), gone) refl

module _ (hub : Domains) (es : List Event) (calls : BTreeMap (ℕ × ℕ) Calls) (dropped : BTreeSet ℕ) (was : IsTabled hub es calls dropped) where
  live_is : (from to : ℕ) → list_any (drops from) es ≡ false → list_any (drops to) es ≡ false → (state_after hub es (Ordered from to)).live ≡ live_of (calls_at calls from to)
  live_is from to caller target = rw (caller, target) at (was.live from to)

  pub pair_full : (from to : ℕ) → list_any (drops from) es ≡ false → list_any (drops to) es ≡ false → 16 ≤ length (live_of (calls_at calls from to))
      → Refused (PairFull (length (live_of (calls_at calls from to)))) ≡ takes_call hub (state_after hub es (Ordered from to)) from to
  pair_full from to caller target full =
      let many : nat_le 16 (length (live_of (calls_at calls from to))) ≡ true = grind (arith, nat_tests, full) in
      rw (dropped_is hub (Ordered from to) to es (of_target from to), target, live_is from to caller target, many) refl

  pub ports_spent : (from to : ℕ) → list_any (drops from) es ≡ false → list_any (drops to) es ≡ false → length (live_of (calls_at calls from to)) < 16 → pages_of hub from to ≤ number_of (calls_at calls from to)
      → Refused (PortsSpent (port_after from to (number_of (calls_at calls from to)))) ≡ takes_call hub (state_after hub es (Ordered from to)) from to
  ports_spent from to caller target few spent =
      let room : nat_le 16 (length (live_of (calls_at calls from to))) ≡ false = grind (arith, nat_tests, few) in
      let none : nat_le (pages_of hub from to) (number_of (calls_at calls from to)) ≡ true = grind (arith, nat_tests, spent) in
      rw (dropped_is hub (Ordered from to) to es (of_target from to), target, live_is from to caller target, room, was.counted from to, none) refl

  pub call_taken : (from to : ℕ) → list_any (drops from) es ≡ false → list_any (drops to) es ≡ false → length (live_of (calls_at calls from to)) < 16 → number_of (calls_at calls from to) < pages_of hub from to
      → Accepted to (port_after from to (number_of (calls_at calls from to))) ≡ takes_call hub (state_after hub es (Ordered from to)) from to
  call_taken from to caller target few left =
      let room : nat_le 16 (length (live_of (calls_at calls from to))) ≡ false = grind (arith, nat_tests, few) in
      let some : nat_le (pages_of hub from to) (number_of (calls_at calls from to)) ≡ false = grind (arith, nat_tests, left) in
      rw (dropped_is hub (Ordered from to) to es (of_target from to), target, live_is from to caller target, room, was.counted from to, some) refl

-- ---- a trigger

pub caller_gone : (hub : Domains) (es : List Event) (from : ℕ) (target service ident : List ℕ) → list_any (drops from) es ≡ true → PassedOver ≡ decision hub es (Trigger from target service ident)
caller_gone hub es from target service ident gone =
    rw (dropped_is hub (towards from (target_of hub target)) from es (of_towards from (target_of hub target)), gone) refl

up_is : (hub : Domains) (es : List Event) (from : ℕ) (o : Option ℕ) → list_any (drops from) es ≡ false → has from (state_after hub es (towards from o)).dropped ≡ false
up_is hub es from o up = dropped_is hub (towards from o) from es (of_towards from o) ∙ up

pub no_domain : (hub : Domains) (es : List Event) (from : ℕ) (target service ident : List ℕ) → list_any (drops from) es ≡ false → target_of hub target ≡ None
    → Refused NoDomain ≡ decision hub es (Trigger from target service ident)
no_domain hub es from target service ident up named = rw (named, up_is hub es from None up) refl

pub same_domain : (hub : Domains) (es : List Event) (from : ℕ) (target service ident : List ℕ) (to : ℕ) → list_any (drops from) es ≡ false → target_of hub target ≡ Some to → to ≡ from
    → Refused SameDomain ≡ decision hub es (Trigger from target service ident)
same_domain hub es from target service ident to up named self =
    let same : (to == from) ≡ true = grind (arith, nat_tests, self) in
    rw (named, up_is hub es from (Some to) up, same) refl

pub no_service : (hub : Domains) (es : List Event) (from : ℕ) (target service ident : List ℕ) (to : ℕ) → list_any (drops from) es ≡ false → target_of hub target ≡ Some to → to ≢ from → is_service service ≡ false
    → Refused NoService ≡ decision hub es (Trigger from target service ident)
no_service hub es from target service ident to up named other none =
    let apart : (to == from) ≡ false = grind (arith, nat_tests, other) in
    let caller : has from (state_after hub es (Ordered from to)).dropped ≡ false = dropped_is hub (Ordered from to) from es (of_caller from to) ∙ up in
    rw (named, apart, caller, none) refl

pub goes_on : (hub : Domains) (es : List Event) (from : ℕ) (target service ident : List ℕ) (to : ℕ) → list_any (drops from) es ≡ false → target_of hub target ≡ Some to → to ≢ from → is_service service ≡ true
    → takes_call hub (state_after hub es (Ordered from to)) from to ≡ decision hub es (Trigger from target service ident)
goes_on hub es from target service ident to up named other known =
    let apart : (to == from) ≡ false = grind (arith, nat_tests, other) in
    let caller : has from (state_after hub es (Ordered from to)).dropped ≡ false = dropped_is hub (Ordered from to) from es (of_caller from to) ∙ up in
    rw (named, apart, caller, known) refl

-- ---- a Terminated

-- the pair by a port is one of the two ordered pairs of its domains
by_port_cases : (a b port : ℕ) → (by_port a b port ≡ Ordered a b) ⊎ (by_port a b port ≡ Ordered b a)
by_port_cases a b port = by_odd (is_odd port) (nat_le a b) refl
  where
    by_odd : (odd less : Bool) → nat_le a b ≡ less
        → ((if odd then Ordered (min a b) (max a b) else Ordered (max a b) (min a b)) ≡ Ordered a b) ⊎ ((if odd then Ordered (min a b) (max a b) else Ordered (max a b) (min a b)) ≡ Ordered b a)
    by_odd odd true is = by_parity odd
      where
        less : a ≤ b
        less = grind (arith, nat_tests, is)

        low : min a b ≡ a
        low = omega (arith, less)

        high : max a b ≡ b
        high = omega (arith, less)

        by_parity : (o : Bool) → ((if o then Ordered (min a b) (max a b) else Ordered (max a b) (min a b)) ≡ Ordered a b) ⊎ ((if o then Ordered (min a b) (max a b) else Ordered (max a b) (min a b)) ≡ Ordered b a)
        by_parity true = inl (rw (low, high) refl)
        by_parity false = inr (rw (low, high) refl)
    by_odd odd false is = by_parity odd
      where
        more : b ≤ a
        more = let m : b < a = grind (arith, nat_tests, is) in omega (arith, m)

        low : min a b ≡ b
        low = omega (arith, more)

        high : max a b ≡ a
        high = omega (arith, more)

        by_parity : (o : Bool) → ((if o then Ordered (min a b) (max a b) else Ordered (max a b) (min a b)) ≡ Ordered a b) ⊎ ((if o then Ordered (min a b) (max a b) else Ordered (max a b) (min a b)) ≡ Ordered b a)
        by_parity true = inr (rw (low, high) refl)
        by_parity false = inl (rw (low, high) refl)

of_by_port : (a b port : ℕ) → is_of a (by_port a b port) ≡ true
of_by_port a b port = by_case (by_port_cases a b port)
  where
    by_case : (by_port a b port ≡ Ordered a b) ⊎ (by_port a b port ≡ Ordered b a) → is_of a (by_port a b port) ≡ true
    by_case (inl is) = ap (is_of a) is ∙ of_caller a b
    by_case (inr is) = ap (is_of a) is ∙ of_target b a

of_terminated : (hub : Domains) (from other port : ℕ) → is_of from (pair_of hub (Terminated from other port)) ≡ true
of_terminated hub from other port = by_test (is_domain hub other && not (other == from))
  where
    by_test : (b : Bool) → is_of from (if b then by_port from other port else Alone from) ≡ true
    by_test true = of_by_port from other port
    by_test false = equal_self from

pub sender_gone : (hub : Domains) (es : List Event) (from other port : ℕ) → list_any (drops from) es ≡ true → PassedOver ≡ decision hub es (Terminated from other port)
sender_gone hub es from other port gone = rw (dropped_is hub (pair_of hub (Terminated from other port)) from es (of_terminated hub from other port), gone) refl

abbrev ending_in : Domains → List Event → ℕ → ℕ → Pair → Decision
ending_in hub es from port pair = if has from (state_after hub es pair).dropped then PassedOver else ends_call pair (state_after hub es pair) port

-- the decision on a Terminated of the pair that its domains and its port name
pub by_live : (hub : Domains) (es : List Event) (from other port caller server : ℕ) → list_any (drops from) es ≡ false → (is_domain hub other && not (other == from)) ≡ true → Ordered caller server ≡ by_port from other port
    → (if has port (state_after hub es (Ordered caller server)).live then Ended caller server port else PassedOver) ≡ decision hub es (Terminated from other port)
by_live hub es from other port caller server up there is =
    let pair : pair_of hub (Terminated from other port) ≡ Ordered caller server = ap (λ b. if b then by_port from other port else Alone from) there ∙ sym is in
    let mine : is_of from (Ordered caller server) ≡ true = ap (is_of from) is ∙ of_by_port from other port in
    let alive : has from (state_after hub es (Ordered caller server)).dropped ≡ false = dropped_is hub (Ordered caller server) from es mine ∙ up in
    sym (ap (ending_in hub es from port) pair ∙ ap (λ b. if b then PassedOver else ends_call (Ordered caller server) (state_after hub es (Ordered caller server)) port) alive)

-- which domains of a pair are dropped, by the two domains that name it
gone_of_pair : (es : List Event) (from other port caller server : ℕ) → Ordered caller server ≡ by_port from other port → list_any (drops from) es ≡ false
    → (list_any (drops caller) es || list_any (drops server) es) ≡ list_any (drops other) es
gone_of_pair es from other port caller server is up = by_case (by_port_cases from other port)
  where
    by_case : (by_port from other port ≡ Ordered from other) ⊎ (by_port from other port ≡ Ordered other from) → (list_any (drops caller) es || list_any (drops server) es) ≡ list_any (drops other) es
    by_case (inl pair) =
        let same : Ordered caller server ≡ Ordered from other = is ∙ pair in
        let c : caller ≡ from = cc in
        let s : server ≡ other = cc in
        rw (c, s, up) refl
    by_case (inr pair) =
        let same : Ordered caller server ≡ Ordered other from = is ∙ pair in
        let c : caller ≡ other = cc in
        let s : server ≡ from = cc in
        rw (c, s, up) (or-false (list_any (drops other) es))

module _ (hub : Domains) (es : List Event) (calls : BTreeMap (ℕ × ℕ) Calls) (dropped : BTreeSet ℕ) (was : IsTabled hub es calls dropped) where
  -- the live calls of the pair, by the table
  live_by_port : (from other port caller server : ℕ) → list_any (drops from) es ≡ false → Ordered caller server ≡ by_port from other port
      → (state_after hub es (Ordered caller server)).live ≡ (if list_any (drops other) es then [] else live_of (calls_at calls caller server))
  live_by_port from other port caller server up is = was.live caller server ∙ ap (λ b. if b then [] else live_of (calls_at calls caller server)) (gone_of_pair es from other port caller server is up)

  other_gone_in : (from other port caller server : ℕ) → list_any (drops from) es ≡ false → (is_domain hub other && not (other == from)) ≡ true → Ordered caller server ≡ by_port from other port
      → list_any (drops other) es ≡ true → PassedOver ≡ decision hub es (Terminated from other port)
  other_gone_in from other port caller server up there is gone =
      let none : (state_after hub es (Ordered caller server)).live ≡ [] = live_by_port from other port caller server up is ∙ ap (λ b. if b then [] else live_of (calls_at calls caller server)) gone in
      sym (ap (λ ports. if has port ports then Ended caller server port else PassedOver) none) ∙ by_live hub es from other port caller server up there is

  pub other_gone : (from other port : ℕ) → list_any (drops from) es ≡ false → (is_domain hub other && not (other == from)) ≡ true
      → list_any (drops other) es ≡ true → PassedOver ≡ decision hub es (Terminated from other port)
  other_gone from other port up there gone = by_case (by_port_cases from other port)
    where
      by_case : (by_port from other port ≡ Ordered from other) ⊎ (by_port from other port ≡ Ordered other from) → PassedOver ≡ decision hub es (Terminated from other port)
      by_case (inl is) = other_gone_in from other port from other up there (sym is) gone
      by_case (inr is) = other_gone_in from other port other from up there (sym is) gone

  pub by_table : (from other port caller server : ℕ) → list_any (drops from) es ≡ false → (is_domain hub other && not (other == from)) ≡ true → Ordered caller server ≡ by_port from other port
      → list_any (drops other) es ≡ false → (if has port (live_of (calls_at calls caller server)) then Ended caller server port else PassedOver) ≡ decision hub es (Terminated from other port)
  by_table from other port caller server up there is alive =
      let live : (state_after hub es (Ordered caller server)).live ≡ live_of (calls_at calls caller server) = live_by_port from other port caller server up is ∙ ap (λ b. if b then [] else live_of (calls_at calls caller server)) alive in
      sym (ap (λ ports. if has port ports then Ended caller server port else PassedOver) live) ∙ by_live hub es from other port caller server up there is
