-- What an agent has sent, when more is heard, a call is answered, or more is to be reported.
use Rattle.std.proofs.Common.{◌≡◌, ℕ, List, [], ◌∷◌, ◌++◌, refl, sym, Some, None, Option, subst, inl, inr}
use Rattle.std.specs.Prelude.{Bool, true, false, if◌then◌else◌}
use Rattle.std.specs.List.{AllByRecursion as Each}
use Rattle.std.proofs.lemmas.Bool.{and_parts}
use Rattle.list_laws.specs.Lists.{SomeOf}
use Rattle.list_laws.proofs.Places.{get_map}
use Rattle.list_laws.proofs.Each.{each_weaker, each_append, some_append}
use Rattle.qrexec_frame.specs.declared.message.Message.{Message}
use Rattle.qrexec_frame.specs.declared.message.Message.TheVariants as m
use Rattle.task_duties.specs.declared.done.SessionEnd.{SessionEnd}
use Rattle.task_duties.specs.Agent.Answers.{Answer, Waits, Asked, waits, waits_as, answered}
use Rattle.task_duties.specs.Agent.Saying.{is_at, AsksToServe, IsTold}
use Rattle.agent_queue.specs.Queue.{QueueState, asked_by}
use Rattle.agent_queue.specs.Asking.{Asks}
use Rattle.agent_control.specs.declared.control.AgentControl.{AgentControl}
use Rattle.agent_control.specs.Speaking.{MayTell, IsTellable, Speaks}

-- ---- more is heard

told_more : (asked : List Asked) (heard more : List Message) (w : Message) → IsTold asked heard w → IsTold asked (heard ++ more) w
told_more asked heard more (m.Terminated d p) (inl own) = inl own
told_more asked heard more (m.Terminated d p) (inr there) = inr (some_append (AsksToServe d p) heard more there)
told_more asked heard more _ h = h

may_more : (asked : List Asked) (heard more : List Message) (call : Option ℕ) (d p : ℕ) → MayTell asked heard call d p → MayTell asked (heard ++ more) call d p
may_more asked heard more (Some place) d p h = h
may_more asked heard more None d p h = some_append (AsksToServe d p) heard more h

pub hears_more : (c : AgentControl) (heard more said : List Message) → Speaks c heard said → Speaks c (heard ++ more) said
hears_more c heard more said s = record {
  said_is = s.said_is;
  asks = s.asks;
  of_version = s.of_version;
  told = each_weaker (IsTold (asked_by c.queue) heard) (IsTold (asked_by c.queue) (heard ++ more)) (λ w h. told_more (asked_by c.queue) heard more w h) said s.told;
  unsaid = each_weaker (IsTellable (asked_by c.queue) heard) (IsTellable (asked_by c.queue) (heard ++ more)) (λ e h. may_more (asked_by c.queue) heard more e.call e.domain e.port h) c.unsaid.items s.unsaid;
}

-- ---- a call is answered

-- the call of an ident with this answer, if it waits
abbrev pub given_answer : List ℕ → Answer → Asked → Asked
given_answer ident answer a = if waits_as ident a then record { call = a.call; answer = answer } else a

pub waits_not_at : (d p : ℕ) (x : Answer) → waits x ≡ true → is_at d p x ≡ true → {A : Type 0} → A
waits_not_at d p Waits w at = absurd (let e : false ≡ true = at in cc)
waits_not_at d p _ w at = absurd (let e : false ≡ true = w in cc)

at_still : (ident : List ℕ) (answer : Answer) (d p : ℕ) (a : Asked) → is_at d p a.answer ≡ true → is_at d p (given_answer ident answer a).answer ≡ true
at_still ident answer d p a at = by_wait (waits_as ident a) refl
  where
    by_wait : (b : Bool) → waits_as ident a ≡ b → is_at d p (if b then record { call = a.call; answer = answer } else a).answer ≡ true
    by_wait true is = waits_not_at d p a.answer (and_parts _ _ is).1 at
    by_wait false is = at

some_still : (ident : List ℕ) (answer : Answer) (d p : ℕ) (asked : List Asked) → SomeOf (λ a. is_at d p a.answer ≡ true) asked → SomeOf (λ a. is_at d p a.answer ≡ true) (answered ident answer asked)
some_still ident answer d p [] h = absurd h
some_still ident answer d p (a ∷ asked) (inl h) = inl (at_still ident answer d p a h)
some_still ident answer d p (a ∷ asked) (inr h) = inr (some_still ident answer d p asked h)

told_still : (ident : List ℕ) (answer : Answer) (asked : List Asked) (heard : List Message) (w : Message) → IsTold asked heard w → IsTold (answered ident answer asked) heard w
told_still ident answer asked heard (m.Terminated d p) (inl own) = inl (some_still ident answer d p asked own)
told_still ident answer asked heard (m.Terminated d p) (inr there) = inr there
told_still ident answer asked heard _ h = h

may_still : (ident : List ℕ) (answer : Answer) (asked : List Asked) (heard : List Message) (call : Option ℕ) (d p : ℕ) → MayTell asked heard call d p → MayTell (answered ident answer asked) heard call d p
may_still ident answer asked heard (Some place) d p h = (given_answer ident answer h.0, get_map (given_answer ident answer) asked place h.0 h.1, at_still ident answer d p h.0 h.2)
may_still ident answer asked heard None d p h = h

pub answers_more : (c : AgentControl) (queue : QueueState) (ident : List ℕ) (answer : Answer) (heard said : List Message) → asked_by queue ≡ answered ident answer (asked_by c.queue)
    → ((said : List Message) → Asks c.queue said → Asks queue said) → Speaks c heard said → Speaks (record c { queue = queue }) heard said
answers_more c queue ident answer heard said is asks s = record {
  said_is = s.said_is;
  asks = asks said s.asks;
  of_version = s.of_version;
  told = subst (λ l. Each (IsTold l heard) said) (sym is)
      (each_weaker (IsTold (asked_by c.queue) heard) (IsTold (answered ident answer (asked_by c.queue)) heard) (λ w h. told_still ident answer (asked_by c.queue) heard w h) said s.told);
  unsaid = subst (λ l. Each (IsTellable l heard) c.unsaid.items) (sym is)
      (each_weaker (IsTellable (asked_by c.queue) heard) (IsTellable (answered ident answer (asked_by c.queue)) heard) (λ e h. may_still ident answer (asked_by c.queue) heard e.call e.domain e.port h) c.unsaid.items s.unsaid);
}

-- ---- more is to be reported

pub tells_more : (c new : AgentControl) (ends : List SessionEnd) (heard said : List Message) → new.unsaid.items ≡ c.unsaid.items ++ ends → Each (IsTellable (asked_by c.queue) heard) ends → Speaks c heard said
    → Speaks (record c { unsaid = new.unsaid }) heard said
tells_more c new ends heard said is each s = record {
  said_is = s.said_is;
  asks = s.asks;
  of_version = s.of_version;
  told = s.told;
  unsaid = subst (λ l. Each (IsTellable (asked_by c.queue) heard) l) (sym is) (each_append (IsTellable (asked_by c.queue) heard) c.unsaid.items ends s.unsaid each);
}
