-- Control-bytes: what a side got of a beginning of what the other has sent has no fault, and is the first few of those messages.
use Rattle.std.proofs.Common.{◌≡◌, ℕ, ◌<◌, ◌≤◌, ◌^◌, suc, zero, List, [], ◌∷◌, ◌++◌, length, take, map, refl, ap, ◌∙◌, arith, ◌⊎◌, inl, inr, None}
use Rattle.std.specs.Prelude.{true, false, Bool, nat_lt}
use Rattle.std.specs.List.{flat_map, AllByRecursion as Each}
use Rattle.std.proofs.lemmas.Bool.Decides.{nat_tests}
use Rattle.list_laws.specs.Lists.{IsPrefixOf}
use Rattle.qrexec_frame.specs.declared.kind.Channel.TheVariants.{Control}
use Rattle.qrexec_frame.specs.declared.message.Message.{Message}
use Rattle.qrexec_frame.specs.declared.message.Message.TheVariants.{Hello, Exec, JustExec, Connect, Refused, Terminated, Trigger3, Trigger, Stdin, Stdout, Stderr, ExitCode}
use Rattle.qrexec_frame.specs.Messages.{written, IsSpellable, GoesOn}
use Rattle.qrexec_frame.specs.Grammar.{Fault}
use Rattle.qrexec_frame.specs.Fronts.{front, reading}
use Rattle.qrexec_frame.specs.Streams.{Placed, Ending, Rest}
use Rattle.qrexec_frame.proofs.StreamLaws.{begins, reads_all}
use Rattle.qrexec_frame.proofs.GrammarLaws.{is_prefix_code}
use Rattle.qrexec_frame.proofs.WrittenLaws.{is_read_again}
use Rattle.task_duties.specs.Hearing.{to_agent, to_broker, IsSaid, Heard, hears, hears_on, allowed, first_fault}

abbrev Good : Message → Type 0
Good m = IsSpellable m × GoesOn Control m

abbrev pub the_messages : List (Placed Message) → List Message
the_messages placed = map (λ p. p.message) placed

-- what may be sent goes on a control channel
abbrev pub OnControl : (Message → Bool) → Type 0
OnControl may = (m : Message) → may m ≡ true → GoesOn Control m

pub agent_on_control : OnControl to_agent
agent_on_control (Connect d p i) h = refl
agent_on_control (Refused i) h = refl
agent_on_control (Exec d p l) h = refl
agent_on_control (JustExec d p l) h = refl
agent_on_control (Hello v) h = cc
agent_on_control (Stdin b) h = cc
agent_on_control (Stdout b) h = cc
agent_on_control (Stderr b) h = cc
agent_on_control (ExitCode c) h = cc
agent_on_control (Terminated d p) h = cc
agent_on_control (Trigger3 t i s) h = cc
agent_on_control (Trigger t i s) h = cc

pub broker_on_control : OnControl to_broker
broker_on_control (Trigger3 t i s) h = refl
broker_on_control (Trigger t i s) h = refl
broker_on_control (Terminated d p) h = refl
broker_on_control (Connect d p i) h = cc
broker_on_control (Refused i) h = cc
broker_on_control (Exec d p l) h = cc
broker_on_control (JustExec d p l) h = cc
broker_on_control (Hello v) h = cc
broker_on_control (Stdin b) h = cc
broker_on_control (Stdout b) h = cc
broker_on_control (Stderr b) h = cc
broker_on_control (ExitCode c) h = cc

good_said : (may : Message → Bool) → OnControl may → (said : List Message) → Each (λ m. (may m ≡ true) × IsSpellable m) said → Each Good said
good_said may on [] each = tt
good_said may on (m ∷ said) each = ((each.0.1, on m each.0.0), good_said may on said each.1)

-- of allowed messages the first few are heard as they are
allowed_all : (may : Message → Bool) (said : List Message) → Each (λ m. (may m ≡ true) × IsSpellable m) said → (placed : List (Placed Message)) (k left : ℕ) → the_messages placed ≡ take k said
    → (allowed may placed ≡ take k said) × (first_fault may placed (Rest left) ≡ None)
allowed_all may said each [] k left is = (is, refl)
allowed_all may said each (p ∷ placed) zero left is = cc
allowed_all may [] each (p ∷ placed) (suc k) left is = cc
allowed_all may (m ∷ said) each (p ∷ placed) (suc k) left is =
    let a : p.message ≡ m = cc in
    let more : the_messages placed ≡ take k said = cc in
    let on = allowed_all may said each.1 placed k left more in
    let may_be : may p.message ≡ true = ap may a ∙ each.0.0 in
    rw may_be (let both : p.message ∷ allowed may placed ≡ m ∷ take k said = cc in (both, on.1))

-- what was heard: no fault, and the first few of what was sent
pub record IsClean (said : List Message) (heard : Heard) : Type 0 where
  pub fault : heard.fault ≡ None
  pub count : ℕ
  pub messages : heard.messages ≡ take count said

on_hello : (own other : ℕ) (may : Message → Bool) (said : List Message) → 2 ≤ other → Each (λ m. (may m ≡ true) × IsSpellable m) said → (placed : List (Placed Message)) (e : Ending Fault) (k left : ℕ)
    → the_messages placed ≡ take k (Hello other ∷ said) → e ≡ Rest left → IsClean said (hears_on own may placed e)
on_hello own other may said two each [] e k left is rest = rw rest (record { fault = refl; count = 0; messages = refl })
on_hello own other may said two each (p ∷ placed) e zero left is rest = cc
on_hello own other may said two each (p ∷ placed) e (suc k) left is rest =
    let a : p.message ≡ Hello other = cc in
    let more : the_messages placed ≡ take k said = cc in
    let big : nat_lt other 2 ≡ false = grind (arith, nat_tests) in
    let on = allowed_all may said each placed k left more in
    rw (a, big, rest) (record { fault = on.1; count = k; messages = on.0 })

pub control_bytes_lem : (own other : ℕ) (may : Message → Bool) → OnControl may → (said : List Message) (sent got : List ℕ) → 2 ≤ other → other < 2 ^ 32
    → IsSaid other may said sent → IsPrefixOf got sent → IsClean said (hears own may got)
control_bytes_lem own other may on said sent got two small h prefix = by_sent h.whole
  where
    good : Each Good (Hello other ∷ said)
    good = (((tt, small), refl), good_said may on said h.each)

    is_empty : (a b : List ℕ) → a ++ b ≡ [] → a ≡ []
    is_empty [] b e = refl
    is_empty (x ∷ a) b e = cc

    by_sent : ((sent ≡ []) × (said ≡ [])) ⊎ (sent ≡ flat_map written (Hello other ∷ said)) → IsClean said (hears own may got)
    by_sent (inl none) = let nothing = is_empty got prefix.0 (prefix.1 ∙ none.0) in rw nothing (record { fault = refl; count = 0; messages = refl })
    by_sent (inr is) =
        let b = begins (front Control) written Good (is_prefix_code Control) (is_read_again Control) (Hello other ∷ said) good got prefix.0 0 (prefix.1 ∙ is) in
        on_hello own other may said two h.each (reading Control got).placed (reading Control got).ending b.count (length b.over) b.read b.ending

-- if all that was sent came, all of it is heard
pub all_heard : (own other : ℕ) (may : Message → Bool) → OnControl may → (said : List Message) (sent : List ℕ) → 2 ≤ other → other < 2 ^ 32
    → IsSaid other may said sent → (hears own may sent).messages ≡ said
all_heard own other may on said sent two small h = by_sent h.whole
  where
    good : Each Good (Hello other ∷ said)
    good = (((tt, small), refl), good_said may on said h.each)

    all_on : (said' : List Message) → Each (λ m. (may m ≡ true) × IsSpellable m) said' → (placed : List (Placed Message)) → the_messages placed ≡ said' → allowed may placed ≡ said'
    all_on said' each [] is = is
    all_on [] each (p ∷ placed) is = cc
    all_on (m ∷ said') each (p ∷ placed) is =
        let a : p.message ≡ m = cc in
        let more : the_messages placed ≡ said' = cc in
        let on' = all_on said' each.1 placed more in
        let may_be : may p.message ≡ true = ap may a ∙ each.0.0 in
        rw may_be cc

    by_reading : (placed : List (Placed Message)) (e : Ending Fault) → the_messages placed ≡ Hello other ∷ said → (hears_on own may placed e).messages ≡ said
    by_reading [] e is = cc
    by_reading (p ∷ placed) e is =
        let a : p.message ≡ Hello other = cc in
        let more : the_messages placed ≡ said = cc in
        let big : nat_lt other 2 ≡ false = grind (arith, nat_tests) in
        rw (a, big) (all_on said h.each placed more)

    by_sent : ((sent ≡ []) × (said ≡ [])) ⊎ (sent ≡ flat_map written (Hello other ∷ said)) → (hears own may sent).messages ≡ said
    by_sent (inl none) = rw (none.0, none.1) refl
    by_sent (inr is) =
        let all = reads_all (front Control) written Good (is_prefix_code Control) (is_read_again Control) (Hello other ∷ said) good 0 in
        rw is (by_reading (reading Control (flat_map written (Hello other ∷ said))).placed (reading Control (flat_map written (Hello other ∷ said))).ending all.0)
