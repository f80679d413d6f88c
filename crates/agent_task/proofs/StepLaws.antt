-- What an agent makes of one message more.
use Rattle.std.proofs.Common.{◌≡◌, ℕ, List, [], ◌∷◌, ◌++◌, refl, ap, sym, ◌∙◌, Some, None, Option, subst}
use Rattle.std.specs.Prelude.{Bool, true, false, map, slice_get, slice_set, ◌&&◌}
use Rattle.std.specs.List.{list_any, AllByRecursion as Each, AllZip as EachPair}
use Rattle.std.proofs.lemmas.Bool.{and_right, and_parts}
use Rattle.list_laws.specs.Lists.{SomeOf}
use Rattle.list_laws.proofs.Places.{get_map}
use Rattle.list_laws.proofs.Each.{each_push, each_weaker, some_append, some_push}
use Rattle.list_laws.proofs.Pairs.{pairs_push}
use Rattle.service_gate.specs.declared.builtin.Builtin.{Builtin}
use Rattle.qrexec_frame.specs.declared.message.Message.{Message}
use Rattle.qrexec_frame.specs.declared.message.Message.TheVariants as m
use Rattle.task_duties.specs.declared.place.PagePlace.TheVariants.{Payload}
use Rattle.task_duties.specs.declared.done.SessionEnd.{SessionEnd}
use Rattle.task_duties.specs.Places.{has_place, without}
use Rattle.task_duties.specs.Words.{service_of_line}
use Rattle.task_duties.specs.Agent.Answers.{IsRefused, At, Answers, waits_as, answered, serves, takes, answers, nothing_heard}
use Rattle.task_duties.specs.Agent.Saying.{AsksToServe}
use Rattle.agent_queue.specs.Queue.{Queued, QueueState, asked_as, asked_by, after_answer, IsWaitingAt}
use Rattle.agent_queue.specs.Asking.{Asks}
use Rattle.agent_slots.specs.Slots.{Called, Serves, SlotsState}
use Rattle.agent_control.specs.Speaking.{IsTellable, Speaks}
use Rattle.agent_task.specs.declared.agent.Agent.{Agent}
use Rattle.agent_task.specs.Given.{plan_of}
use Rattle.agent_task.specs.Lines.{IsNamed}
use Rattle.agent_task.specs.Ends.{session_asked, AreKept}
use Rattle.agent_task.specs.Asking.{CallsStand}
use Rattle.agent_task.specs.Standing.{Stands, KeepsEnds, AreAnswers, AreCallsOf, AreSlotsOf, AreAskedFor, IsServedBy, IsHearing, Awaits, OnlyTells, called_of}
use Rattle.agent_task.proofs.SpeakLaws.{hears_more, answers_more, tells_more}
use Rattle.agent_task.proofs.AnswerLaws.{takes_last, asked_answered, still_calls, called_refused, called_answered, some_waits, waits_none}
use Rattle.agent_task.proofs.AskingLaws.{calls_opened, calls_unserved, calls_called, calls_refused}
use Rattle.agent_task.proofs.KeptLaws.{kept_passed, kept_called, kept_served, kept_unserved}

-- ---- what one message makes of the answers

takes_connect : (d to port : ℕ) (ident : List ℕ) (a : Answers) → (list_any (waits_as ident) a.asked && has_place (Payload d to port) a.unused) ≡ true
    → takes d a (m.Connect to port ident) ≡ record a { asked = answered ident (At to port) a.asked; unused = without (Payload d to port) a.unused }
takes_connect d to port ident a is = rw is refl

takes_connect_not : (d to port : ℕ) (ident : List ℕ) (a : Answers) → (list_any (waits_as ident) a.asked && has_place (Payload d to port) a.unused) ≡ false → takes d a (m.Connect to port ident) ≡ a
takes_connect_not d to port ident a is = rw is refl

takes_exec_unnamed : (d from port : ℕ) (line : List ℕ) (a : Answers) → service_of_line line ≡ None → takes d a (m.Exec from port line) ≡ a
takes_exec_unnamed d from port line a is = ap (λ (o : Option (List ℕ)). serves d from port o a) is

serves_no_end : (d from port : ℕ) (o : Option (List ℕ)) (a : Answers) → has_place (Payload from d port) a.unused ≡ false → serves d from port o a ≡ a
serves_no_end d from port None a is = refl
serves_no_end d from port (Some name) a is = rw is refl

serves_one : (d from port : ℕ) (name : List ℕ) (a : Answers) → has_place (Payload from d port) a.unused ≡ true
    → serves d from port (Some name) a ≡ record a { unused = without (Payload from d port) a.unused; served = a.served ++ record { from = from; port = port; service = name } ∷ [] }
serves_one d from port name a is = rw is refl

-- ---- an agent with other answers

abbrev pub with_answers : Agent → QueueState → SlotsState → Agent
with_answers a q s = record a { control = record a.control { queue = q }; slots = s }

-- what it made of the messages that it heard
abbrev pub made_of : Agent → List Message → Answers
made_of a heard = answers (plan_of a.given) heard

stands_on : (a : Agent) (q : QueueState) (s : SlotsState) (heard said : List Message) (w : Message) → Stands a heard said → AreCallsOf a.given q → AreSlotsOf a.given s → AreAnswers (takes a.given.domain (made_of a heard) w) q s
    → AreAskedFor (heard ++ w ∷ []) s.served → Speaks (record a.control { queue = q }) (heard ++ w ∷ []) said → Stands (with_answers a q s) (heard ++ w ∷ []) said
stands_on a q s heard said w stands calls slots are asked_for speaks = record {
  port = stands.port;
  calls = calls;
  slots = slots;
  answers = subst (λ (x : Answers). AreAnswers x q s) (sym (takes_last a.given.domain heard w (nothing_heard (plan_of a.given)))) are;
  asked_for = asked_for;
  speaks = speaks;
  quiet = stands.quiet;
}

acts : (a : Agent) (q : QueueState) (s : SlotsState) (w : Message) (awaits : Awaits a w) → Stands (with_answers a q s) (awaits.heard ++ w ∷ []) awaits.said
    → KeepsEnds (with_answers a q s) (awaits.heard ++ w ∷ []) awaits.said → IsHearing (with_answers a q s)
acts a q s w awaits stands keeps = record {
  heard = awaits.heard ++ w ∷ [];
  said = awaits.said;
  stands = stands;
  keeps = keeps;
  hears = awaits.hears;
  sound = record { fine = awaits.sound.fine; is_open = awaits.sound.is_open; up = awaits.sound.up };
}

asked_for_more : (heard more : List Message) (served : List Serves) → AreAskedFor heard served → AreAskedFor (heard ++ more) served
asked_for_more heard more served each = each_weaker (λ x. SomeOf (AsksToServe x.from x.port) heard) (λ x. SomeOf (AsksToServe x.from x.port) (heard ++ more)) (λ x h. some_append (AsksToServe x.from x.port) heard more h) served each

-- ---- a message that changes no answer

passed_stands : (a : Agent) (heard said : List Message) (w : Message) → Stands a heard said → takes a.given.domain (made_of a heard) w ≡ made_of a heard → Stands a (heard ++ w ∷ []) said
passed_stands a heard said w stands same =
    stands_on a a.control.queue a.slots heard said w stands stands.calls stands.slots (subst (λ (x : Answers). AreAnswers x a.control.queue a.slots) (sym same) stands.answers)
    (asked_for_more heard (w ∷ []) a.slots.served stands.asked_for) (hears_more a.control heard (w ∷ []) said stands.speaks)

pub passes : (a : Agent) (w : Message) (awaits : Awaits a w) → takes a.given.domain (made_of a awaits.heard) w ≡ made_of a awaits.heard → session_asked w ≡ None → IsHearing a
passes a w awaits same none =
    acts a a.control.queue a.slots w awaits (passed_stands a awaits.heard awaits.said w awaits.stands same)
    (kept_passed a.over a.slots.called a.control.unsaid.items a.slots.opened awaits.heard awaits.said w none awaits.keeps.0, awaits.keeps.1)

pub passes_other : (a : Agent) (w : Message) → Awaits a w → ((d p : ℕ) (i : List ℕ) → w ≡ m.Connect d p i → ⊥) → ((i : List ℕ) → w ≡ m.Refused i → ⊥) → ((d p : ℕ) (l : List ℕ) → w ≡ m.Exec d p l → ⊥)
    → ((d p : ℕ) (l : List ℕ) → w ≡ m.JustExec d p l → ⊥) → IsHearing a
passes_other a w awaits connect refused exec just_exec = passes a w awaits (same w connect refused exec (made_of a awaits.heard)) (asks_none w exec just_exec)
  where
    asks_none : (w : Message) → ((d p : ℕ) (l : List ℕ) → w ≡ m.Exec d p l → ⊥) → ((d p : ℕ) (l : List ℕ) → w ≡ m.JustExec d p l → ⊥) → session_asked w ≡ None
    asks_none (m.Exec d p l) e j = absurd (e d p l refl)
    asks_none (m.JustExec d p l) e j = absurd (j d p l refl)
    asks_none _ e j = refl

    same : (w : Message) → ((d p : ℕ) (i : List ℕ) → w ≡ m.Connect d p i → ⊥) → ((i : List ℕ) → w ≡ m.Refused i → ⊥) → ((d p : ℕ) (l : List ℕ) → w ≡ m.Exec d p l → ⊥) → (x : Answers) → takes a.given.domain x w ≡ x
    same (m.Connect d p i) c r e x = absurd (c d p i refl)
    same (m.Refused i) c r e x = absurd (r i refl)
    same (m.Exec d p l) c r e x = absurd (e d p l refl)
    same _ c r e x = refl

-- ---- MSG_SERVICE_CONNECT

pub connect_no_call : (a : Agent) (to port : ℕ) (ident : List ℕ) → Awaits a (m.Connect to port ident) → list_any (waits_as ident) (asked_by a.control.queue) ≡ false → IsHearing a
connect_no_call a to port ident awaits none =
    let made = made_of a awaits.heard in
    let no : list_any (waits_as ident) made.asked ≡ false = ap (λ l. list_any (waits_as ident) l) (sym awaits.stands.answers.asked) ∙ none in
    passes a (m.Connect to port ident) awaits (takes_connect_not a.given.domain to port ident made (ap (λ (b : Bool). b && has_place (Payload a.given.domain to port) made.unused) no)) refl

-- what the data ends have at a place
place_there : (a : Agent) (heard said : List Message) (to port : ℕ) (b : Bool) → Stands a heard said → b ≡ has_place (Payload a.slots.domain to port) a.slots.unused → has_place (Payload a.given.domain to port) (made_of a heard).unused ≡ b
place_there a heard said to port b stands is =
    ap (λ l. has_place (Payload a.given.domain to port) l) (sym stands.answers.unused) ∙ ap (λ (d : ℕ). has_place (Payload d to port) a.slots.unused) (sym stands.slots.domain) ∙ sym is

place_here : (a : Agent) (heard said : List Message) (from port : ℕ) (b : Bool) → Stands a heard said → b ≡ has_place (Payload from a.slots.domain port) a.slots.unused → has_place (Payload from a.given.domain port) (made_of a heard).unused ≡ b
place_here a heard said from port b stands is =
    ap (λ l. has_place (Payload from a.given.domain port) l) (sym stands.answers.unused) ∙ ap (λ (d : ℕ). has_place (Payload from d port) a.slots.unused) (sym stands.slots.domain) ∙ sym is

pub connect_no_end : (a : Agent) (to port : ℕ) (ident : List ℕ) → Awaits a (m.Connect to port ident) → false ≡ has_place (Payload a.slots.domain to port) a.slots.unused → IsHearing a
connect_no_end a to port ident awaits none =
    let made = made_of a awaits.heard in
    passes a (m.Connect to port ident) awaits (takes_connect_not a.given.domain to port ident made
    (and_right (list_any (waits_as ident) made.asked) (has_place (Payload a.given.domain to port) made.unused) (place_there a awaits.heard awaits.said to port false awaits.stands none))) refl

-- a call that waits has no session
pub call_number : (a : Agent) (w : Message) (place : ℕ) (ident : List ℕ) → Awaits a w → IsWaitingAt a.control.queue place ident → slice_get a.slots.called place ≡ Some None
call_number a w place ident awaits waiting =
    let answers = awaits.stands.answers in
    let at : slice_get (made_of a awaits.heard).asked place ≡ Some (asked_as waiting.0) = ap (λ l. slice_get l place) (sym answers.asked) ∙ get_map asked_as a.control.queue.calls place waiting.0 waiting.1 in
    ap (λ l. slice_get l place) answers.called ∙ get_map called_of (made_of a awaits.heard).asked place (asked_as waiting.0) at
    ∙ ap (λ (o : Option Called). Some o) (waits_none waiting.0.call waiting.0.answer (and_parts _ _ waiting.2).1)

pub connect_taken : (a : Agent) (to port : ℕ) (ident : List ℕ) (place : ℕ) (input : List ℕ) (q : QueueState) (s : SlotsState) → Awaits a (m.Connect to port ident) → IsWaitingAt a.control.queue place ident
    → true ≡ has_place (Payload a.slots.domain to port) a.slots.unused → q ≡ after_answer a.control.queue ident (At to port) → ((said : List Message) → Asks a.control.queue said → Asks q said)
    → ((c : Queued) → slice_get a.control.queue.calls place ≡ Some c → input ≡ c.call.stdin)
    → s ≡ record a.slots { unused = without (Payload a.slots.domain to port) a.slots.unused; called = slice_set a.slots.called place (Some (record { to = to; port = port; input = input })); opened = a.slots.opened ++ record { domain = to; port = port; call = Some place } ∷ []; sessions = s.sessions }
    → IsHearing (with_answers a q s)
connect_taken a to port ident place input q s awaits waiting there q_is asks stdin s_is =
    acts a q s w awaits (stands_on a q s heard said w stands (still_calls a.given a.control.queue q ident (At to port) asked stands.calls) slots are
    (subst (λ l. AreAskedFor (heard ++ w ∷ []) l) (sym (ap (λ (x : SlotsState). x.served) s_is)) (asked_for_more heard (w ∷ []) a.slots.served stands.asked_for))
    (hears_more (record a.control { queue = q }) heard (w ∷ []) said (answers_more a.control q ident (At to port) heard said asked asks stands.speaks))) (keeps, calls)
  where
    w : Message
    w = m.Connect to port ident

    heard : List Message
    heard = awaits.heard

    said : List Message
    said = awaits.said

    stands : Stands a heard said
    stands = awaits.stands

    made : Answers
    made = made_of a heard

    asked : asked_by q ≡ answered ident (At to port) (asked_by a.control.queue)
    asked = ap asked_by q_is ∙ asked_answered ident (At to port) a.control.queue.calls

    at : slice_get (asked_by a.control.queue) place ≡ Some (asked_as waiting.0)
    at = get_map asked_as a.control.queue.calls place waiting.0 waiting.1

    any : list_any (waits_as ident) made.asked ≡ true
    any = ap (λ l. list_any (waits_as ident) l) (sym stands.answers.asked) ∙ some_waits ident (asked_by a.control.queue) place (asked_as waiting.0) at waiting.2

    free : has_place (Payload a.given.domain to port) made.unused ≡ true
    free = place_there a heard said to port true stands there

    takes_is : takes a.given.domain made w ≡ record made { asked = answered ident (At to port) made.asked; unused = without (Payload a.given.domain to port) made.unused }
    takes_is = takes_connect a.given.domain to port ident made (ap (λ (b : Bool). b && has_place (Payload a.given.domain to port) made.unused) any ∙ free)

    slots : AreSlotsOf a.given s
    slots = subst (λ (x : SlotsState). AreSlotsOf a.given x) (sym s_is) (record { domain = stands.slots.domain; version = stands.slots.version; held = stands.slots.held; whole = stands.slots.whole; apart = stands.slots.apart })

    called : s.called ≡ map called_of (answered ident (At to port) made.asked)
    called =
        ap (λ (x : SlotsState). x.called) s_is ∙ ap (λ (l : List (Option Called)). slice_set l place (Some (record { to = to; port = port; input = input }))) (stands.answers.called ∙ ap (λ l. map called_of l) (sym stands.answers.asked))
        ∙ ap (λ (i : List ℕ). slice_set (map called_of (asked_by a.control.queue)) place (Some (record { to = to; port = port; input = i }))) (stdin waiting.0 waiting.1)
        ∙ called_answered ident to port (asked_by a.control.queue) place (asked_as waiting.0) stands.calls.apart at waiting.2 ∙ ap (λ l. map called_of (answered ident (At to port) l)) stands.answers.asked

    unused : s.unused ≡ without (Payload a.given.domain to port) made.unused
    unused = ap (λ (x : SlotsState). x.unused) s_is ∙ ap (λ (d : ℕ). without (Payload d to port) a.slots.unused) stands.slots.domain ∙ ap (λ l. without (Payload a.given.domain to port) l) stands.answers.unused

    keeps : AreKept a.over s.called a.control.unsaid.items s.opened (heard ++ w ∷ []) said
    keeps =
        subst (λ (x : SlotsState). AreKept a.over x.called a.control.unsaid.items x.opened (heard ++ w ∷ []) said) (sym s_is)
        (kept_called a.over a.slots.called a.control.unsaid.items a.slots.opened heard said w place (record { to = to; port = port; input = input }) (call_number a w place ident awaits waiting) refl awaits.keeps.0)

    calls : a.over ≡ None → CallsStand q a.control.unsaid.items s.opened said
    calls up =
        subst (λ (x : SlotsState). CallsStand q a.control.unsaid.items x.opened said) (sym s_is)
        (subst (λ (x : QueueState). CallsStand x a.control.unsaid.items (a.slots.opened ++ record { domain = to; port = port; call = Some place } ∷ []) said) (sym q_is)
        (calls_called a.control.queue ident to port place a.control.unsaid.items a.slots.opened said stands.calls.apart waiting (awaits.keeps.1 up)))

    are : AreAnswers (takes a.given.domain made w) q s
    are = subst (λ (x : Answers). AreAnswers x q s) (sym takes_is) (record {
      asked = asked ∙ ap (λ l. answered ident (At to port) l) stands.answers.asked;
      unused = unused;
      called = called;
      served = subst (λ l. EachPair IsServedBy made.served l) (sym (ap (λ (x : SlotsState). x.served) s_is)) stands.answers.served;
    })

-- ---- MSG_SERVICE_REFUSED

pub refuse_taken : (a : Agent) (ident : List ℕ) (q : QueueState) → Awaits a (m.Refused ident) → q ≡ after_answer a.control.queue ident IsRefused → ((said : List Message) → Asks a.control.queue said → Asks q said) → IsHearing (with_answers a q a.slots)
refuse_taken a ident q awaits q_is asks =
    let w : Message = m.Refused ident in
    let heard = awaits.heard in
    let said = awaits.said in
    let stands = awaits.stands in
    let asked : asked_by q ≡ answered ident IsRefused (asked_by a.control.queue) = ap asked_by q_is ∙ asked_answered ident IsRefused a.control.queue.calls in
    acts a q a.slots w awaits (stands_on a q a.slots heard said w stands (still_calls a.given a.control.queue q ident IsRefused asked stands.calls) stands.slots
    (record {
      asked = asked ∙ ap (λ l. answered ident IsRefused l) stands.answers.asked;
      unused = stands.answers.unused;
      called = stands.answers.called ∙ sym (called_refused ident (made_of a heard).asked);
      served = stands.answers.served;
    })
    (asked_for_more heard (w ∷ []) a.slots.served stands.asked_for)
    (hears_more (record a.control { queue = q }) heard (w ∷ []) said (answers_more a.control q ident IsRefused heard said asked asks stands.speaks))) (
      kept_passed a.over a.slots.called a.control.unsaid.items a.slots.opened heard said w refl awaits.keeps.0,
      λ up. subst (λ (x : QueueState). CallsStand x a.control.unsaid.items a.slots.opened said) (sym q_is) (calls_refused a.control.queue ident a.control.unsaid.items a.slots.opened said (awaits.keeps.1 up)),
    )

-- ---- MSG_EXEC_CMDLINE

pub serve_taken : (a : Agent) (from port : ℕ) (line : List ℕ) (service : Builtin) (s : SlotsState) → Awaits a (m.Exec from port line) → IsNamed (service_of_line line) (Some service)
    → true ≡ has_place (Payload from a.slots.domain port) a.slots.unused
    → s ≡ record a.slots { unused = without (Payload from a.slots.domain port) a.slots.unused; served = a.slots.served ++ record { from = from; port = port; service = service } ∷ []; opened = a.slots.opened ++ record { domain = from; port = port; call = None } ∷ []; sessions = s.sessions }
    → IsHearing (with_answers a a.control.queue s)
serve_taken a from port line service s awaits named there s_is = by_name (service_of_line line) refl named
  where
    w : Message
    w = m.Exec from port line

    heard : List Message
    heard = awaits.heard

    said : List Message
    said = awaits.said

    stands : Stands a heard said
    stands = awaits.stands

    made : Answers
    made = made_of a heard

    slots : AreSlotsOf a.given s
    slots = subst (λ (x : SlotsState). AreSlotsOf a.given x) (sym s_is) (record { domain = stands.slots.domain; version = stands.slots.version; held = stands.slots.held; whole = stands.slots.whole; apart = stands.slots.apart })

    keeps : AreKept a.over s.called a.control.unsaid.items s.opened (heard ++ w ∷ []) said
    keeps =
        subst (λ (x : SlotsState). AreKept a.over x.called a.control.unsaid.items x.opened (heard ++ w ∷ []) said) (sym s_is)
        (kept_served a.over a.slots.called a.control.unsaid.items a.slots.opened heard said w (record { domain = from; port = port; call = None }) refl awaits.keeps.0)

    calls : a.over ≡ None → CallsStand a.control.queue a.control.unsaid.items s.opened said
    calls up =
        subst (λ (x : SlotsState). CallsStand a.control.queue a.control.unsaid.items x.opened said) (sym s_is)
        (calls_opened a.control.queue a.control.unsaid.items a.slots.opened (record { domain = from; port = port; call = None } ∷ []) said (awaits.keeps.1 up))

    by_name : (o : Option (List ℕ)) → service_of_line line ≡ o → IsNamed o (Some service) → IsHearing (with_answers a a.control.queue s)
    by_name None is named = absurd named
    by_name (Some name) is is_service =
        let takes_is : takes a.given.domain made w ≡ record made { unused = without (Payload from a.given.domain port) made.unused; served = made.served ++ record { from = from; port = port; service = name } ∷ [] } =
        ap (λ (o : Option (List ℕ)). serves a.given.domain from port o made) is ∙ serves_one a.given.domain from port name made (place_here a heard said from port true stands there) in
        let served_is : s.served ≡ a.slots.served ++ record { from = from; port = port; service = service } ∷ [] = ap (λ (x : SlotsState). x.served) s_is in
        let are : AreAnswers (takes a.given.domain made w) a.control.queue s = subst (λ (x : Answers). AreAnswers x a.control.queue s) (sym takes_is) (record {
          asked = stands.answers.asked;
          unused = ap (λ (x : SlotsState). x.unused) s_is ∙ ap (λ (d : ℕ). without (Payload from d port) a.slots.unused) stands.slots.domain ∙ ap (λ l. without (Payload from a.given.domain port) l) stands.answers.unused;
          called = ap (λ (x : SlotsState). x.called) s_is ∙ stands.answers.called;
          served = subst (λ l. EachPair IsServedBy (made.served ++ record { from = from; port = port; service = name } ∷ []) l) (sym served_is)
              (pairs_push IsServedBy made.served a.slots.served (record { from = from; port = port; service = name }) (record { from = from; port = port; service = service }) stands.answers.served (refl, refl, is_service));
        }) in
        acts a a.control.queue s w awaits (stands_on a a.control.queue s heard said w stands stands.calls slots are
        (subst (λ l. AreAskedFor (heard ++ w ∷ []) l) (sym served_is)
        (each_push (λ x. SomeOf (AsksToServe x.from x.port) (heard ++ w ∷ [])) a.slots.served (record { from = from; port = port; service = service }) (asked_for_more heard (w ∷ []) a.slots.served stands.asked_for) (some_push (AsksToServe from port) heard w (refl, refl))))
        (hears_more a.control heard (w ∷ []) said stands.speaks)) (keeps, calls)

-- ---- which ends are to be reported

pub tells_stand : (old new : Agent) (ends : List SessionEnd) (heard said : List Message) → OnlyTells old new → new.control.unsaid.items ≡ old.control.unsaid.items ++ ends → Each (IsTellable (asked_by old.control.queue) heard) ends
    → Stands old heard said → Stands new heard said
tells_stand old new ends heard said only told each stands = subst (λ (x : Agent). Stands x heard said) (sym only) (record {
  port = stands.port;
  calls = stands.calls;
  slots = stands.slots;
  answers = stands.answers;
  asked_for = stands.asked_for;
  speaks = tells_more old.control new.control ends heard said told each stands.speaks;
  quiet = stands.quiet;
})

-- the end of what isn't served is to be reported
unserved : (old new : Agent) (d p : ℕ) (w : Message) (awaits : Awaits old w) → AsksToServe d p w → session_asked w ≡ Some (d, p) → takes old.given.domain (made_of old awaits.heard) w ≡ made_of old awaits.heard → OnlyTells old new
    → new.control.unsaid.items ≡ old.control.unsaid.items ++ record { domain = d; port = p; call = None } ∷ [] → IsHearing new
unserved old new d p w awaits asks names same only told =
    let stands = passed_stands old awaits.heard awaits.said w awaits.stands same in
    let after = tells_stand old new (record { domain = d; port = p; call = None } ∷ []) (awaits.heard ++ w ∷ []) awaits.said only told (some_push (AsksToServe d p) awaits.heard w asks, tt) stands in
    let P : Agent → Type 0 = λ x. Stands x (awaits.heard ++ w ∷ []) awaits.said in
    let Q : Agent → Type 0 = λ x. IsHearing x in
    let keeps = kept_unserved old.over old.slots.called old.control.unsaid.items old.slots.opened awaits.heard awaits.said w (record { domain = d; port = p; call = None }) names awaits.keeps.0 in
    let calls = λ (up : old.over ≡ None). calls_unserved old.control.queue old.control.unsaid.items (record { domain = d; port = p; call = None } ∷ []) old.slots.opened awaits.said (awaits.keeps.1 up) in
    subst Q (sym only) (record {
      heard = awaits.heard ++ w ∷ [];
      said = awaits.said;
      stands = subst P only after;
      keeps = (
        subst (λ l. AreKept old.over old.slots.called l old.slots.opened (awaits.heard ++ w ∷ []) awaits.said) (sym told) keeps,
        λ up. subst (λ l. CallsStand old.control.queue l old.slots.opened awaits.said) (sym told) (calls up),
      );
      hears = awaits.hears;
      sound = record { fine = awaits.sound.fine; is_open = awaits.sound.is_open; up = awaits.sound.up };
    })

pub just_exec_unserved : (old new : Agent) (d p : ℕ) (line : List ℕ) → Awaits old (m.JustExec d p line) → OnlyTells old new → new.control.unsaid.items ≡ old.control.unsaid.items ++ record { domain = d; port = p; call = None } ∷ [] → IsHearing new
just_exec_unserved old new d p line awaits only told = unserved old new d p (m.JustExec d p line) awaits (refl, refl) refl refl only told

pub exec_unnamed : (old new : Agent) (d p : ℕ) (line : List ℕ) → Awaits old (m.Exec d p line) → IsNamed (service_of_line line) None → OnlyTells old new
    → new.control.unsaid.items ≡ old.control.unsaid.items ++ record { domain = d; port = p; call = None } ∷ [] → IsHearing new
exec_unnamed old new d p line awaits named only told =
    unserved old new d p (m.Exec d p line) awaits (refl, refl) refl (takes_exec_unnamed old.given.domain d p line (made_of old awaits.heard) (by_name (service_of_line line) named)) only told
  where
    by_name : (o : Option (List ℕ)) → IsNamed o None → o ≡ None
    by_name None named = refl
    by_name (Some name) named = absurd named

pub exec_no_end : (old new : Agent) (d p : ℕ) (line : List ℕ) → Awaits old (m.Exec d p line) → false ≡ has_place (Payload d old.slots.domain p) old.slots.unused → OnlyTells old new
    → new.control.unsaid.items ≡ old.control.unsaid.items ++ record { domain = d; port = p; call = None } ∷ [] → IsHearing new
exec_no_end old new d p line awaits none only told =
    unserved old new d p (m.Exec d p line) awaits (refl, refl) refl
    (serves_no_end old.given.domain d p (service_of_line line) (made_of old awaits.heard) (place_here old awaits.heard awaits.said d p false awaits.stands none)) only told
