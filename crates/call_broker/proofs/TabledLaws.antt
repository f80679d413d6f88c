-- The tables follow the pairs: they stand for one more event once they are settled by its decision.
use Rattle.std.proofs.Common.{◌≡◌, ℕ, ◌+◌, List, [], ◌∷◌, ◌++◌, refl, ap, sym, ◌∙◌, subst}
use Rattle.std.specs.Prelude.{true, false, Bool, ◌==◌, ◌&&◌, ◌||◌, not, filter, if◌then◌else◌}
use Rattle.std.specs.List.{list_any}
use Rattle.std.specs.Map.{lookup}
use Rattle.std.specs.BTreeMap.{BTreeMap, is_at}
use Rattle.std.specs.BTreeSet.{BTreeSet}
use Rattle.std.specs.BTreeSet as set
use Rattle.std.specs.Ordering.{nat_cmp}
use Rattle.list_laws.proofs.Tests.{equal_self}
use Rattle.call_broker.specs.declared.calls.Calls.{Calls}
use Rattle.call_broker.specs.declared.event.Event.{Event}
use Rattle.call_broker.specs.declared.event.Event.TheVariants.{Trigger, Terminated, Dropped}
use Rattle.call_broker.specs.declared.decision.Decision.{Decision}
use Rattle.call_broker.specs.declared.decision.Decision.TheVariants.{Accepted, Refused, Ended, PassedOver}
use Rattle.call_broker.specs.Domains.{Domains, is_domain, target_of}
use Rattle.call_broker.specs.Pair.{Pair, Ordered, Alone, PairState, is_pair, is_of, pair_of, decides, settles, state_after, decision}
use Rattle.call_broker.specs.Journal.{drops, IsNumbered}
use Rattle.qrexec_frame.specs.Names.{cleaned_target}
use Rattle.call_broker.specs.Tables.{pair_cmp, calls_at, live_of, number_of, is_same, AddsCall, EndsCall, SameCalls, SameDropped, AddsDropped, IsEntered, IsTabled}
use Rattle.call_broker.proofs.PortLaws.{state_after_lem}
use Rattle.call_broker.proofs.DroppedLaws.{dropped_is, dropped_more}
use Rattle.call_broker.proofs.OpenLaws.{IsTaken, domain_found, trigger_ends_none, terminated_takes_none, taken_view, taken_pair, ended_pair}
use Rattle.call_broker.proofs.TableLaws.{is_same_lem}
use Rattle.call_broker.proofs.AnswerLaws.{of_caller}

pub own_pair : (p : Pair) (f t : ℕ) → is_pair p (Ordered f t) ≡ true → p ≡ Ordered f t
own_pair (Ordered from to) f t same = let is = is_same_lem from to f t same in ap (λ x. Ordered x to) is.0 ∙ ap (λ x. Ordered f x) is.1
own_pair (Alone d) f t same = cc

-- a pair after an event of one pair: by what was decided, or as it was
abbrev pub settled_if : Domains → List Event → ℕ → ℕ → Event → Decision → Pair → PairState
settled_if hub es f t e d pair = if is_pair pair (Ordered f t) then settles (state_after hub es (Ordered f t)) e d else state_after hub es (Ordered f t)

step_decided : (hub : Domains) (es : List Event) (f t : ℕ) (e : Event)
    → (if is_pair (pair_of hub e) (Ordered f t) then settles (state_after hub es (Ordered f t)) e (decides hub (Ordered f t) (state_after hub es (Ordered f t)) e) else state_after hub es (Ordered f t))
    ≡ settled_if hub es f t e (decision hub es e) (pair_of hub e)
step_decided hub es f t e = by_own (is_pair (pair_of hub e) (Ordered f t)) refl
  where
    by_own : (b : Bool) → is_pair (pair_of hub e) (Ordered f t) ≡ b
        → (if b then settles (state_after hub es (Ordered f t)) e (decides hub (Ordered f t) (state_after hub es (Ordered f t)) e) else state_after hub es (Ordered f t))
        ≡ (if b then settles (state_after hub es (Ordered f t)) e (decision hub es e) else state_after hub es (Ordered f t))
    by_own true own = ap (λ p. settles (state_after hub es (Ordered f t)) e (decides hub p (state_after hub es p) e)) (sym (own_pair (pair_of hub e) f t own))
    by_own false own = refl

-- the pair after a trigger, or after a Terminated
trigger_after : (hub : Domains) (es : List Event) (f t from : ℕ) (target service ident : List ℕ) (d : Decision) → d ≡ decision hub es (Trigger from target service ident)
    → state_after hub (es ++ Trigger from target service ident ∷ []) (Ordered f t) ≡ settled_if hub es f t (Trigger from target service ident) d (pair_of hub (Trigger from target service ident))
trigger_after hub es f t from target service ident d is =
    state_after_lem hub (Ordered f t) es (Trigger from target service ident)
    ∙ step_decided hub es f t (Trigger from target service ident)
    ∙ ap (λ x. settled_if hub es f t (Trigger from target service ident) x (pair_of hub (Trigger from target service ident))) (sym is)

terminated_after : (hub : Domains) (es : List Event) (f t from other port : ℕ) (d : Decision) → d ≡ decision hub es (Terminated from other port)
    → state_after hub (es ++ Terminated from other port ∷ []) (Ordered f t) ≡ settled_if hub es f t (Terminated from other port) d (pair_of hub (Terminated from other port))
terminated_after hub es f t from other port d is =
    state_after_lem hub (Ordered f t) es (Terminated from other port)
    ∙ step_decided hub es f t (Terminated from other port)
    ∙ ap (λ x. settled_if hub es f t (Terminated from other port) x (pair_of hub (Terminated from other port))) (sym is)

-- ---- if nothing changes

same_calls_lem : (old new : BTreeMap (ℕ × ℕ) Calls) (f t : ℕ) → SameCalls old new → calls_at new f t ≡ calls_at old f t
same_calls_lem old new f t same = ap (λ (es : List ((ℕ × ℕ) × Calls)). lookup (is_at (pair_cmp (f, t))) es) same

same_dropped : (old new : BTreeSet ℕ) (d : ℕ) → SameDropped old new → set.contains nat_cmp new d ≡ set.contains nat_cmp old d
same_dropped old new d same = ap (λ (ks : List ℕ). list_any (is_at (nat_cmp d)) ks) same

-- an event that drops no domain
gone_same : (hub : Domains) (es : List Event) (e : Event) (old new : BTreeSet ℕ) → ((d : ℕ) → drops d e ≡ false) → SameDropped old new
    → ((d : ℕ) → set.contains nat_cmp old d ≡ list_any (drops d) es) → (d : ℕ) → set.contains nat_cmp new d ≡ list_any (drops d) (es ++ e ∷ [])
gone_same hub es e old new none same gone d = same_dropped old new d same ∙ gone d ∙ sym (dropped_more d es e ∙ ap (λ b. b || list_any (drops d) es) (none d))

gone_of : (es : List Event) (e : Event) → ((d : ℕ) → drops d e ≡ false) → (d : ℕ) → list_any (drops d) (es ++ e ∷ []) ≡ list_any (drops d) es
gone_of es e none d = dropped_more d es e ∙ ap (λ b. b || list_any (drops d) es) (none d)

-- an event that changes no pair and drops no domain
kept : (hub : Domains) (es : List Event) (e : Event) (calls calls' : BTreeMap (ℕ × ℕ) Calls) (dropped dropped' : BTreeSet ℕ)
    → ((d : ℕ) → drops d e ≡ false) → ((f t : ℕ) → state_after hub (es ++ e ∷ []) (Ordered f t) ≡ state_after hub es (Ordered f t))
    → SameCalls calls calls' → SameDropped dropped dropped' → IsTabled hub es calls dropped → IsTabled hub (es ++ e ∷ []) calls' dropped'
kept hub es e calls calls' dropped dropped' none stays same_calls same_gone was = record {
  gone = gone_same hub es e dropped dropped' none same_gone was.gone;
  counted = λ f t. ap (λ s. s.calls) (stays f t) ∙ was.counted f t ∙ sym (ap number_of (same_calls_lem calls calls' f t same_calls));
  live = λ f t. rw (stays f t, gone_of es e none f, gone_of es e none t, same_calls_lem calls calls' f t same_calls) (was.live f t);
  among = λ f t strange. ap live_of (same_calls_lem calls calls' f t same_calls) ∙ was.among f t strange;
}

if_same : (s : PairState) (b : Bool) → (if b then s else s) ≡ s
if_same s true = refl
if_same s false = refl

trigger_kept : (hub : Domains) (es : List Event) (from : ℕ) (target service ident : List ℕ) (d : Decision) (calls calls' : BTreeMap (ℕ × ℕ) Calls) (dropped dropped' : BTreeSet ℕ)
    → ((f t : ℕ) → settles (state_after hub es (Ordered f t)) (Trigger from target service ident) d ≡ state_after hub es (Ordered f t)) → d ≡ decision hub es (Trigger from target service ident)
    → SameCalls calls calls' → SameDropped dropped dropped' → IsTabled hub es calls dropped → IsTabled hub (es ++ Trigger from target service ident ∷ []) calls' dropped'
trigger_kept hub es from target service ident d calls calls' dropped dropped' idle is same_calls same_gone was =
    kept hub es (Trigger from target service ident) calls calls' dropped dropped' (λ d. refl)
    (λ f t. trigger_after hub es f t from target service ident d is
    ∙ ap (λ s. if is_pair (pair_of hub (Trigger from target service ident)) (Ordered f t) then s else state_after hub es (Ordered f t)) (idle f t)
    ∙ if_same (state_after hub es (Ordered f t)) (is_pair (pair_of hub (Trigger from target service ident)) (Ordered f t)))
    same_calls same_gone was

terminated_kept : (hub : Domains) (es : List Event) (from other port : ℕ) (d : Decision) (calls calls' : BTreeMap (ℕ × ℕ) Calls) (dropped dropped' : BTreeSet ℕ)
    → ((f t : ℕ) → settles (state_after hub es (Ordered f t)) (Terminated from other port) d ≡ state_after hub es (Ordered f t)) → d ≡ decision hub es (Terminated from other port)
    → SameCalls calls calls' → SameDropped dropped dropped' → IsTabled hub es calls dropped → IsTabled hub (es ++ Terminated from other port ∷ []) calls' dropped'
terminated_kept hub es from other port d calls calls' dropped dropped' idle is same_calls same_gone was =
    kept hub es (Terminated from other port) calls calls' dropped dropped' (λ d. refl)
    (λ f t. terminated_after hub es f t from other port d is
    ∙ ap (λ s. if is_pair (pair_of hub (Terminated from other port)) (Ordered f t) then s else state_after hub es (Ordered f t)) (idle f t)
    ∙ if_same (state_after hub es (Ordered f t)) (is_pair (pair_of hub (Terminated from other port)) (Ordered f t)))
    same_calls same_gone was

-- ---- an accepted trigger

of_target : (from to : ℕ) → (to == from) ≡ false → is_of to (Ordered from to) ≡ true
of_target from to apart = rw (apart, equal_self to) refl

taken : (hub : Domains) (es : List Event) (from : ℕ) (target service ident : List ℕ) (to port : ℕ) (calls calls' : BTreeMap (ℕ × ℕ) Calls) (dropped dropped' : BTreeSet ℕ)
    → (is_domain hub from && is_domain hub to) ≡ true → Accepted to port ≡ decision hub es (Trigger from target service ident)
    → AddsCall calls calls' from to port → SameDropped dropped dropped' → IsTabled hub es calls dropped → IsTabled hub (es ++ Trigger from target service ident ∷ []) calls' dropped'
taken hub es from target service ident to port calls calls' dropped dropped' domains is adds same_gone was = record {
  gone = gone_same hub es event dropped dropped' (λ d. refl) same_gone was.gone;
  counted = λ f t. ap (λ s. s.calls) (after f t) ∙ counted f t (is_same from to f t) refl;
  live = λ f t. rw (gone_of es event (λ d. refl) f, gone_of es event (λ d. refl) t) (ap (λ s. s.live) (after f t) ∙ live f t (is_same from to f t) refl);
  among = λ f t strange. among f t strange (is_same from to f t) refl;
}
  where
    event : Event
    event = Trigger from target service ident

    took : IsTaken hub es from (target_of hub target) to port
    took = taken_view hub es from target service ident to port (sym is)

    after : (f t : ℕ) → state_after hub (es ++ Trigger from target service ident ∷ []) (Ordered f t)
        ≡ settled_if hub es f t (Trigger from target service ident) (Accepted to port) (Ordered from to)
    after f t =
        trigger_after hub es f t from target service ident (Accepted to port) is
        ∙ ap (settled_if hub es f t (Trigger from target service ident) (Accepted to port)) (taken_pair hub es from target service ident to port took)

    counted : (f t : ℕ) (b : Bool) → is_same from to f t ≡ b
        → (if is_same from to f t then settles (state_after hub es (Ordered f t)) (Trigger from target service ident) (Accepted to port) else state_after hub es (Ordered f t)).calls ≡ number_of (calls_at calls' f t)
    counted f t true same = rw ((adds f t).1, same) (ap (λ n. n + 1) (was.counted f t))
    counted f t false apart = rw ((adds f t).1, apart) (was.counted f t)

    caller_up : list_any (drops from) es ≡ false
    caller_up = sym (dropped_is hub (Ordered from to) from es (of_caller from to)) ∙ took.open_pair.caller_up

    target_up : list_any (drops to) es ≡ false
    target_up = sym (dropped_is hub (Ordered from to) to es (of_target from to took.other)) ∙ took.open_pair.target_up

    live : (f t : ℕ) (b : Bool) → is_same from to f t ≡ b
        → (if is_same from to f t then settles (state_after hub es (Ordered f t)) (Trigger from target service ident) (Accepted to port) else state_after hub es (Ordered f t)).live
        ≡ (if list_any (drops f) es || list_any (drops t) es then [] else live_of (calls_at calls' f t))
    live f t true same =
        let at = is_same_lem from to f t same in
        let caller : list_any (drops f) es ≡ false = subst (λ d. list_any (drops d) es ≡ false) at.0 caller_up in
        let target' : list_any (drops t) es ≡ false = subst (λ d. list_any (drops d) es ≡ false) at.1 target_up in
        let before = rw (caller, target') at (was.live f t) in
        rw ((adds f t).0, same, caller, target') (ap (λ ports. port ∷ ports) before)
    live f t false apart = rw ((adds f t).0, apart) (was.live f t)

    among : (f t : ℕ) → (is_domain hub f && is_domain hub t) ≡ false → (b : Bool) → is_same from to f t ≡ b → live_of (calls_at calls' f t) ≡ []
    among f t strange true same = let there = is_same_lem from to f t same in let both_are = rw (there.0, there.1) at domains in absurd (cc)
    among f t strange false apart = rw ((adds f t).0, apart) (was.among f t strange)

-- ---- a Terminated that ends a call

filter_none : (p : ℕ → Bool) (b : Bool) (ports : List ℕ) → filter p (if b then [] else ports) ≡ (if b then [] else filter p ports)
filter_none p true ports = refl
filter_none p false ports = refl

ended : (hub : Domains) (es : List Event) (sender other named from to port : ℕ) (calls calls' : BTreeMap (ℕ × ℕ) Calls) (dropped dropped' : BTreeSet ℕ)
    → Ended from to port ≡ decision hub es (Terminated sender other named)
    → EndsCall calls calls' from to port → SameDropped dropped dropped' → IsTabled hub es calls dropped → IsTabled hub (es ++ Terminated sender other named ∷ []) calls' dropped'
ended hub es sender other named from to port calls calls' dropped dropped' is ends same_gone was = record {
  gone = gone_same hub es event dropped dropped' (λ d. refl) same_gone was.gone;
  counted = λ f t. ap (λ s. s.calls) (after f t) ∙ counted f t (is_same from to f t) ∙ was.counted f t ∙ sym (ends f t).1;
  live = λ f t. rw (gone_of es event (λ d. refl) f, gone_of es event (λ d. refl) t) (ap (λ s. s.live) (after f t) ∙ live f t (is_same from to f t) refl);
  among = λ f t strange. among f t strange (is_same from to f t) refl;
}
  where
    event : Event
    event = Terminated sender other named

    after : (f t : ℕ) → state_after hub (es ++ Terminated sender other named ∷ []) (Ordered f t)
        ≡ settled_if hub es f t (Terminated sender other named) (Ended from to port) (Ordered from to)
    after f t =
        terminated_after hub es f t sender other named (Ended from to port) is
        ∙ ap (settled_if hub es f t (Terminated sender other named) (Ended from to port)) (ended_pair hub es sender other named from to port (sym is))

    counted : (f t : ℕ) (b : Bool)
        → (if b then settles (state_after hub es (Ordered f t)) (Terminated sender other named) (Ended from to port) else state_after hub es (Ordered f t)).calls ≡ (state_after hub es (Ordered f t)).calls
    counted f t true = refl
    counted f t false = refl

    live : (f t : ℕ) (b : Bool) → is_same from to f t ≡ b
        → (if is_same from to f t then settles (state_after hub es (Ordered f t)) (Terminated sender other named) (Ended from to port) else state_after hub es (Ordered f t)).live
        ≡ (if list_any (drops f) es || list_any (drops t) es then [] else live_of (calls_at calls' f t))
    live f t true same =
        rw ((ends f t).0, same)
        (ap (filter (λ p. not (p == port))) (was.live f t) ∙ filter_none (λ p. not (p == port)) (list_any (drops f) es || list_any (drops t) es) (live_of (calls_at calls f t)))
    live f t false apart = rw ((ends f t).0, apart) (was.live f t)

    among : (f t : ℕ) → (is_domain hub f && is_domain hub t) ≡ false → (b : Bool) → is_same from to f t ≡ b → live_of (calls_at calls' f t) ≡ []
    among f t strange true same = rw ((ends f t).0, same, was.among f t strange) refl
    among f t strange false apart = rw ((ends f t).0, apart) (was.among f t strange)

-- ---- a domain that is dropped

gone_live : (caller target a b : Bool) (ports : List ℕ) → (if caller || target then [] else (if a || b then [] else ports)) ≡ (if (caller || a) || (target || b) then [] else ports)
gone_live true target a b ports = refl
gone_live false true true b ports = refl
gone_live false true false b ports = refl
gone_live false false true b ports = refl
gone_live false false false b ports = refl

went : (hub : Domains) (es : List Event) (domain : ℕ) (calls calls' : BTreeMap (ℕ × ℕ) Calls) (dropped dropped' : BTreeSet ℕ)
    → SameCalls calls calls' → AddsDropped dropped dropped' domain → IsTabled hub es calls dropped → IsTabled hub (es ++ Dropped domain ∷ []) calls' dropped'
went hub es domain calls calls' dropped dropped' same_calls adds was = record {
  gone = λ d. adds d ∙ ap (λ b. domain == d || b) (was.gone d) ∙ sym (dropped_more d es (Dropped domain));
  counted = λ f t. ap (λ s. s.calls) (state_after_lem hub (Ordered f t) es (Dropped domain)) ∙ counted f t (is_of domain (Ordered f t)) ∙ was.counted f t ∙ sym (ap number_of (same_calls_lem calls calls' f t same_calls));
  live = λ f t.
      ap (λ s. s.live) (state_after_lem hub (Ordered f t) es (Dropped domain))
      ∙ live f t (is_of domain (Ordered f t))
      ∙ ap (λ ports. if is_of domain (Ordered f t) then [] else ports) (was.live f t)
      ∙ gone_live (domain == f) (domain == t) (list_any (drops f) es) (list_any (drops t) es) (live_of (calls_at calls f t))
      ∙ rw (dropped_more f es (Dropped domain), dropped_more t es (Dropped domain), same_calls_lem calls calls' f t same_calls) refl;
  among = λ f t strange. ap live_of (same_calls_lem calls calls' f t same_calls) ∙ was.among f t strange;
}
  where
    counted : (f t : ℕ) (b : Bool) → (if b then settles (state_after hub es (Ordered f t)) (Dropped domain) PassedOver else state_after hub es (Ordered f t)).calls ≡ (state_after hub es (Ordered f t)).calls
    counted f t true = refl
    counted f t false = refl

    live : (f t : ℕ) (b : Bool) → (if b then settles (state_after hub es (Ordered f t)) (Dropped domain) PassedOver else state_after hub es (Ordered f t)).live ≡ (if b then [] else (state_after hub es (Ordered f t)).live)
    live f t true = refl
    live f t false = refl

-- ---- any event

-- the tables stand for one more event of a domain once they are settled by its decision
pub tabled_more : (hub : Domains) (es : List Event) (e : Event) (d : Decision) (calls calls' : BTreeMap (ℕ × ℕ) Calls) (dropped dropped' : BTreeSet ℕ)
    → IsNumbered hub e → d ≡ decision hub es e → IsEntered e d calls dropped calls' dropped' → IsTabled hub es calls dropped → IsTabled hub (es ++ e ∷ []) calls' dropped'
tabled_more hub es (Trigger from target service ident) (Accepted to port) calls calls' dropped dropped' numbered is settled was =
    let named = (taken_view hub es from target service ident to port (sym is)).named in
    let domains : (is_domain hub from && is_domain hub to) ≡ true = rw (numbered, domain_found hub (cleaned_target target) to named) refl in
    taken hub es from target service ident to port calls calls' dropped dropped' domains is settled.0 settled.1 was
tabled_more hub es (Trigger from target service ident) (Refused cause) calls calls' dropped dropped' numbered is settled was =
    trigger_kept hub es from target service ident (Refused cause) calls calls' dropped dropped' (λ f t. refl) is settled.0 settled.1 was
tabled_more hub es (Trigger from target service ident) (Ended a b p) calls calls' dropped dropped' numbered is settled was = absurd (trigger_ends_none hub es from target service ident a b p is)
tabled_more hub es (Trigger from target service ident) PassedOver calls calls' dropped dropped' numbered is settled was =
    trigger_kept hub es from target service ident PassedOver calls calls' dropped dropped' (λ f t. refl) is settled.0 settled.1 was
tabled_more hub es (Terminated sender other named) (Ended from to port) calls calls' dropped dropped' numbered is settled was =
    ended hub es sender other named from to port calls calls' dropped dropped' is settled.0 settled.1 was
tabled_more hub es (Terminated sender other named) (Accepted to port) calls calls' dropped dropped' numbered is settled was = absurd (terminated_takes_none hub es sender other named to port is)
tabled_more hub es (Terminated sender other named) (Refused cause) calls calls' dropped dropped' numbered is settled was =
    terminated_kept hub es sender other named (Refused cause) calls calls' dropped dropped' (λ f t. refl) is settled.0 settled.1 was
tabled_more hub es (Terminated sender other named) PassedOver calls calls' dropped dropped' numbered is settled was =
    terminated_kept hub es sender other named PassedOver calls calls' dropped dropped' (λ f t. refl) is settled.0 settled.1 was
tabled_more hub es (Dropped domain) d calls calls' dropped dropped' numbered is settled was = went hub es domain calls calls' dropped dropped' settled.0 settled.1 was
