-- A control page with no fault holds a greeting and then the messages that were heard.
use Rattle.std.proofs.Common.{◌≡◌, ℕ, List, [], ◌∷◌, refl, ap, sym, inr, None, subst}
use Rattle.std.specs.Prelude.{true, false, Bool, nat_lt, filter_map}
use Rattle.qrexec_frame.specs.declared.kind.Channel.TheVariants.{Control}
use Rattle.qrexec_frame.specs.declared.message.Message.{Message}
use Rattle.qrexec_frame.specs.declared.message.Message.TheVariants.{Hello}
use Rattle.qrexec_frame.specs.Grammar.{Fault}
use Rattle.qrexec_frame.specs.Fronts.{reading}
use Rattle.qrexec_frame.specs.Streams.{Placed, Ending}
use Rattle.task_duties.specs.Hearing.{hears, hears_on, allowed, first_fault}
use Rattle.task_duties.specs.Agent.Saying.{asking}
use Rattle.task_duties.proofs.ControlLaw.{the_messages}
use Rattle.task_duties.proofs.Elements.{Has}
use Rattle.run_laws.specs.Lawful.{control_messages, replies}

-- all messages are a greeting and then those heard
pub data Greeted (all heard : List Message) : Type 0 where
  Silent : all ≡ [] → heard ≡ [] → Greeted all heard
  Spoken : (version : ℕ) → all ≡ Hello version ∷ heard → Greeted all heard

allowed_whole : (may : Message → Bool) (placed : List (Placed Message)) (e : Ending Fault) → first_fault may placed e ≡ None → allowed may placed ≡ the_messages placed
allowed_whole may [] e none = refl
allowed_whole may (p ∷ placed) e none = by_test (may p.message) refl none (λ k. allowed_whole may placed e k)
  where
    by_test : (b : Bool) → may p.message ≡ b → first_fault may (p ∷ placed) e ≡ None → (first_fault may placed e ≡ None → allowed may placed ≡ the_messages placed) → allowed may (p ∷ placed) ≡ the_messages (p ∷ placed)
    by_test true is k more = let k' = rw is at k in rw is (ap (λ r. p.message ∷ r) (more k'))
    by_test false is k more = let k' = rw is at k in cc

on_hello : (own v : ℕ) (may : Message → Bool) (p : Placed Message) (placed : List (Placed Message)) (e : Ending Fault) → p.message ≡ Hello v → (b : Bool) → nat_lt v 2 ≡ b
    → (hears_on own may (p ∷ placed) e).fault ≡ None → Greeted (the_messages (p ∷ placed)) (hears_on own may (p ∷ placed) e).messages
on_hello own v may p placed e is true low none = let k = rw (is, low) at none in cc
on_hello own v may p placed e is false high none =
    let k = rw (is, high) at none in
    let whole = allowed_whole may placed e k in
    rw (is, high) (Spoken v (ap (λ r. Hello v ∷ r) (sym whole)))

by_message : (own : ℕ) (may : Message → Bool) (p : Placed Message) (placed : List (Placed Message)) (e : Ending Fault) (x : Message) → p.message ≡ x
    → (hears_on own may (p ∷ placed) e).fault ≡ None → Greeted (the_messages (p ∷ placed)) (hears_on own may (p ∷ placed) e).messages
by_message own may p placed e (Hello v) is none = on_hello own v may p placed e is (nat_lt v 2) refl none
by_message own may p placed e x is none = let k = rw is at none in cc

on_placed : (own : ℕ) (may : Message → Bool) (placed : List (Placed Message)) (e : Ending Fault) → (hears_on own may placed e).fault ≡ None → Greeted (the_messages placed) (hears_on own may placed e).messages
on_placed own may [] e none = Silent refl refl
on_placed own may (p ∷ placed) e none = by_message own may p placed e p.message refl none

pub greeted : (own : ℕ) (may : Message → Bool) (got : List ℕ) → (hears own may got).fault ≡ None → Greeted (control_messages got) (hears own may got).messages
greeted own may got none = on_placed own may (reading Control got).placed (reading Control got).ending none

pub same_asked : (all heard : List Message) → Greeted all heard → filter_map asking all ≡ filter_map asking heard
same_asked all heard (Silent a b) = rw (a, b) refl
same_asked all heard (Spoken v a) = rw a refl

pub same_replies : (ident : List ℕ) (all heard : List Message) → Greeted all heard → replies ident all ≡ replies ident heard
same_replies ident all heard (Silent a b) = rw (a, b) refl
same_replies ident all heard (Spoken v a) = rw a refl

pub has_all : (all heard : List Message) (x : Message) → Greeted all heard → Has heard x → Has all x
has_all all heard x (Silent a b) h = let none = subst (λ l. Has l x) b h in absurd none
has_all all heard x (Spoken v a) h = subst (λ l. Has l x) (sym a) (inr h)
