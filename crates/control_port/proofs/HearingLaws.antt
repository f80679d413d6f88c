-- What was heard so far of a stream, and what more of it changes.
use Rattle.std.proofs.Common.{◌≡◌, ℕ, List, [], ◌∷◌, ◌++◌, map, Option, Some, None, true, false, refl, sym, ap, ◌∙◌}
use Rattle.std.specs.Prelude.{Bool, Ok, Err}
use Rattle.std.proofs.lemmas.List.{append-nil}
use Rattle.list_laws.specs.Lists.{IsPrefixOf}
use Rattle.qrexec_frame.specs.declared.message.Message.{Message}
use Rattle.qrexec_frame.specs.Grammar.{Fault}
use Rattle.qrexec_frame.specs.Streams.{Placed, Ending}
use Rattle.qrexec_hello.specs.Greeting.{greeting}
use Rattle.qrexec_hello.specs.declared.hello.HelloFault.{HelloFault}
use Rattle.qrexec_data.specs.declared.outcome.SessionFault.TheVariants as fault
use Rattle.qrexec_data.specs.Seeing.{offset, number}
use Rattle.task_duties.specs.Hearing.{hears_on, allowed, first_fault, fault_of_end}
use Rattle.control_port.specs.Port.{EachMay, HearsSoFar, Nothing, Greeted}

-- messages that may be heard are heard as they are, and then what follows
pub allowed_on : (may : Message → Bool) (placed more : List (Placed Message)) → EachMay may placed → allowed may (placed ++ more) ≡ map (λ p. p.message) placed ++ allowed may more
allowed_on may [] more each = refl
allowed_on may (p ∷ placed) more each = rw each.0 (ap (λ r. p.message ∷ r) (allowed_on may placed more each.1))

pub fault_on : (may : Message → Bool) (placed more : List (Placed Message)) (e : Ending Fault) → EachMay may placed → first_fault may (placed ++ more) e ≡ first_fault may more e
fault_on may [] more e each = refl
fault_on may (p ∷ placed) more e each = rw each.0 (fault_on may placed more e each.1)

-- a stream whose greeting is accepted
pub accepted : (own v : ℕ) (may : Message → Bool) (p : Placed Message) (placed : List (Placed Message)) (e : Ending Fault) → greeting own p.message ≡ Ok v
    → hears_on own may (p ∷ placed) e ≡ record { version = Some v; messages = allowed may placed; fault = first_fault may placed e }
accepted own v may p placed e is = rw is refl

-- a stream whose greeting isn't accepted
pub refused : (own : ℕ) (may : Message → Bool) (p : Placed Message) (placed : List (Placed Message)) (e : Ending Fault) (f : HelloFault) → greeting own p.message ≡ Err f
    → hears_on own may (p ∷ placed) e ≡ record { version = None; messages = []; fault = Some (fault.Hello f) }
refused own may p placed e f is = rw is refl

-- what follows a greeting and messages that were heard
pub heard_on : (own : ℕ) (may : Message → Bool) (given more : List (Placed Message)) (v : ℕ) (heard : List Message) (e : Ending Fault) → HearsSoFar own may given (Some v) heard
    → hears_on own may (given ++ more) e ≡ record { version = Some v; messages = heard ++ allowed may more; fault = first_fault may more e }
heard_on own may given more v heard e (Nothing a b c) = cc
heard_on own may given more v heard e (Greeted p placed u is greets version each heard_is) =
    let same : v ≡ u = cc in
    rw (is, heard_is, same) (accepted own u may p (placed ++ more) e greets ∙ rw (allowed_on may placed more each, fault_on may placed more e each) refl)

-- at the end of what was heard
pub heard_all : (own : ℕ) (may : Message → Bool) (given : List (Placed Message)) (version : Option ℕ) (heard : List Message) (e : Ending Fault) → HearsSoFar own may given version heard
    → hears_on own may given e ≡ record { version = version; messages = heard; fault = fault_of_end e }
heard_all own may given version heard e (Nothing a b c) = rw (a, b, c) refl
heard_all own may given version heard e (Greeted p placed v is greets version_is each heard_is) =
    let on = heard_on own may given [] v heard e (Greeted p placed v is greets refl each heard_is) in
    ap (λ g. hears_on own may g e) (sym (append-nil given)) ∙ on ∙ rw (version_is, append-nil heard) refl

-- one more that may be heard
pub one_more : (own : ℕ) (may : Message → Bool) (given : List (Placed Message)) (v : ℕ) (heard : List Message) (p : Placed Message) → HearsSoFar own may given (Some v) heard → may p.message ≡ true
    → HearsSoFar own may (given ++ p ∷ []) (Some v) (heard ++ p.message ∷ [])
one_more own may given v heard p (Nothing a b c) is = cc
one_more own may given v heard p (Greeted q placed u given_is greets version each heard_is) is =
    Greeted q (placed ++ p ∷ []) u (ap (λ g. g ++ p ∷ []) given_is) greets version (each_on placed each) (ap (λ h. h ++ p.message ∷ []) heard_is ∙ messages_on placed)
  where
    each_on : (placed : List (Placed Message)) → EachMay may placed → EachMay may (placed ++ p ∷ [])
    each_on [] h = (is, tt)
    each_on (x ∷ placed) h = (h.0, each_on placed h.1)

    messages_on : (placed : List (Placed Message)) → map (λ p. p.message) placed ++ p.message ∷ [] ≡ map (λ p. p.message) (placed ++ p ∷ [])
    messages_on [] = refl
    messages_on (x ∷ placed) = ap (λ r. x.message ∷ r) (messages_on placed)

-- one more that may not be heard: nothing after it counts
pub one_wrong : (own : ℕ) (may : Message → Bool) (given all : List (Placed Message)) (v : ℕ) (heard : List Message) (p : Placed Message) (e : Ending Fault) → HearsSoFar own may given (Some v) heard
    → may p.message ≡ false → IsPrefixOf (given ++ p ∷ []) all
    → hears_on own may all e ≡ record { version = Some v; messages = heard; fault = Some (fault.WrongSide (offset p.at) (number p.message)) }
one_wrong own may given all v heard p e so_far is prefix =
    let all_is : all ≡ given ++ p ∷ prefix.0 = sym prefix.1 ∙ behind given prefix.0 in
    ap (λ a. hears_on own may a e) all_is ∙ heard_on own may given (p ∷ prefix.0) v heard e so_far ∙ rw is (ap (λ h. record { version = Some v; messages = h; fault = Some (fault.WrongSide (offset p.at) (number p.message)) }) (append-nil heard))
  where
    behind : (given rest : List (Placed Message)) → (given ++ p ∷ []) ++ rest ≡ given ++ p ∷ rest
    behind [] rest = refl
    behind (x ∷ given) rest = ap (λ r. x ∷ r) (behind given rest)

-- nothing was heard before the greeting
pub silent : (own : ℕ) (may : Message → Bool) (given : List (Placed Message)) (heard : List Message) → HearsSoFar own may given None heard → (given ≡ []) × (heard ≡ [])
silent own may given heard (Nothing a b c) = (a, c)
silent own may given heard (Greeted p placed v is greets version each heard_is) = cc
