-- What an accepted trigger says: its target is another domain, its service is a built-in's, and its port is one of the pair's pages.
use Rattle.std.proofs.Common.{◌≡◌, ℕ, ◌<◌, List, [], ◌∷◌, ◌++◌, refl, ap, sym, ◌∙◌, arith, inl, inr, Option, Some, None, subst}
use Rattle.std.specs.Prelude.{true, false, Bool, ◌==◌, not, if◌then◌else◌}
use Rattle.std.proofs.lemmas.Bool.Decides.{nat_tests}
use Rattle.std.specs.List.{AllByRecursion as Each}
use Rattle.call_broker.specs.declared.decision.Entry.{Entry}
use Rattle.call_broker.specs.declared.event.Event.{Event}
use Rattle.call_broker.specs.declared.event.Event.TheVariants.{Trigger, Terminated, Dropped}
use Rattle.call_broker.specs.declared.decision.Cause.TheVariants.{NoDomain, SameDomain, NoService}
use Rattle.call_broker.specs.declared.decision.Decision.{Decision}
use Rattle.call_broker.specs.declared.decision.Decision.TheVariants.{Accepted, Refused, Ended, PassedOver}
use Rattle.call_broker.specs.Domains.{Domains, target_of, is_service, pages_of, port_after}
use Rattle.call_broker.specs.Pair.{PairState, has, pair_of, takes_call, answers, state_after, decision}
use Rattle.call_broker.specs.Journal.{IsDecidedOn}
use Rattle.call_broker.specs.Laws.{IsAccepted, AcceptsWell, AcceptedCallsAreWell}
use Rattle.call_broker.proofs.PortLaws.{IsAnswer, rest_of, rest_view}

served_only : (b : Bool) (rest : Decision) (a : Bool) (to port : ℕ) → (if a then PassedOver else if not b then Refused NoService else rest) ≡ Accepted to port → b ≡ true
served_only true rest a to port h = refl
served_only false rest true to port h = cc
served_only false rest false to port h = cc

in_state : (hub : Domains) (s : PairState) (from : ℕ) (target service : List ℕ) (to port : ℕ) (o : Option ℕ) → target_of hub target ≡ o
    → (if has from s.dropped then PassedOver else answers hub s from service o) ≡ Accepted to port → IsAccepted hub from target service to port
in_state hub s from target service to port None named h = by_up (has from s.dropped) h
  where
    by_up : (b : Bool) → (if b then PassedOver else Refused NoDomain) ≡ Accepted to port → IsAccepted hub from target service to port
    by_up true e = cc
    by_up false e = cc
in_state hub s from target service to port (Some t) named h = by_self (t == from) refl h
  where
    by_up : (b : Bool) → (if b then PassedOver else Refused SameDomain) ≡ Accepted to port → IsAccepted hub from target service to port
    by_up true e = cc
    by_up false e = cc

    by_view : (t == from) ≡ false → (d : Decision) → d ≡ Accepted to port → IsAnswer hub s from t d → is_service service ≡ true → IsAccepted hub from target service to port
    by_view self d e (inl none) known = let none' = rw e at none in absurd none'
    by_view self d e (inr is) known =
        let both : Accepted t (port_after from t s.calls) ≡ Accepted to port = sym is.0 ∙ e in
        let same : t ≡ to = cc in
        let port_is : port_after from t s.calls ≡ port = cc in
        let less = is.1 in
        record {
          named = named ∙ ap Some same;
          apart = λ both'. let no : t ≡ from = same ∙ sym both' in grind (arith, nat_tests);
          serves = known;
          call = s.calls;
          within = subst (λ x. s.calls < pages_of hub from x) same less;
          port_is = sym port_is ∙ ap (λ x. port_after from x s.calls) same;
        }

    by_self : (b : Bool) → (t == from) ≡ b → (if has from s.dropped then PassedOver else if b then Refused SameDomain else rest_of hub s from t service) ≡ Accepted to port → IsAccepted hub from target service to port
    by_self true self e = by_up (has from s.dropped) e
    by_self false self e =
        by_view self (if has from s.dropped then PassedOver else rest_of hub s from t service) e (rest_view hub s from t service) (served_only (is_service service) (takes_call hub s from t) (has from s.dropped) to port e)

pub accepted_view : (hub : Domains) (before : List Event) (from : ℕ) (target service ident : List ℕ) (to port : ℕ)
    → decision hub before (Trigger from target service ident) ≡ Accepted to port → IsAccepted hub from target service to port
accepted_view hub before from target service ident to port h =
    in_state hub (state_after hub before (pair_of hub (Trigger from target service ident))) from target service to port (target_of hub target) refl h

one_entry : (hub : Domains) (before : List Event) (e : Event) (d : Decision) → d ≡ decision hub before e → AcceptsWell hub e d
one_entry hub before (Trigger from target service ident) (Accepted to port) is = accepted_view hub before from target service ident to port (sym is)
one_entry hub before (Trigger from target service ident) (Refused cause) is = tt
one_entry hub before (Trigger from target service ident) (Ended a b port) is = tt
one_entry hub before (Trigger from target service ident) PassedOver is = tt
one_entry hub before (Terminated from other port) d is = tt
one_entry hub before (Dropped domain) d is = tt

pub accepts_well : (hub : Domains) (journal : List Entry) (before : List Event) → IsDecidedOn hub before journal → Each (λ x. AcceptsWell hub x.event x.decision) journal
accepts_well hub [] before h = tt
accepts_well hub (x ∷ journal) before h = (one_entry hub before x.event x.decision h.0, accepts_well hub journal (before ++ x.event ∷ []) h.1)

pub accepted_calls_are_well_lem : AcceptedCallsAreWell
accepted_calls_are_well_lem hub journal decided = accepts_well hub journal [] decided
