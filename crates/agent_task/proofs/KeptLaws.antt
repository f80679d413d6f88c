-- What becomes of the ends of sessions that an agent owes to report, through each step.
use Rattle.std.proofs.Common.{◌≡◌, ℕ, zero, suc, List, [], ◌∷◌, ◌++◌, refl, ap, sym, ◌∙◌, append_assoc, Some, None, Option, subst}
use Rattle.std.specs.Prelude.{true, map, filter_map, option_map, is_some, slice_get, slice_set, IsPermutation}
use Rattle.std.specs.List.{cons_option, AllByRecursion as Each}
use Rattle.std.proofs.lemmas.List.{append-nil, map-append}
use Rattle.std.proofs.lemmas.List.Elements.{filter_map-append}
use Rattle.std.proofs.lemmas.List.Sorted.{IsPermutation-refl, IsPermutation-sym, IsPermutation-trans, IsPermutation-map, IsPermutation-cons, IsPermutation-middle, IsPermutation-to_front, IsPermutation-append_comm, IsPermutation-append_left, IsPermutation-append_right}
use Rattle.list_laws.specs.Lists.{IsPartOf}
use Rattle.qrexec_frame.specs.declared.message.Message.{Message}
use Rattle.qrexec_frame.specs.declared.message.Message.TheVariants as m
use Rattle.scenario_file.specs.declared.scenario.CallPlan.{CallPlan}
use Rattle.task_duties.specs.declared.done.ControlEnd.{ControlEnd}
use Rattle.task_duties.specs.declared.done.SessionEnd.{SessionEnd}
use Rattle.task_duties.specs.Agent.Answers.{Answer, Waits, Asked}
use Rattle.task_duties.specs.Agent.Saying.{asking}
use Rattle.agent_slots.specs.Slots.{Called}
use Rattle.agent_control.specs.Speaking.{IsSpoken, terminated}
use Rattle.agent_task.specs.Ends.{session_of_answer, session_asked, session_told, sessions_owed, session_called, session_of_end, sessions_known, sessions_held, AreKept}
use Rattle.agent_task.specs.Standing.{called_by, called_of}

-- ---- one that is owed more

front : {A : Type 0} (xs : List A) (x : A) (ys : List A) → IsPermutation (x ∷ (xs ++ ys)) (xs ++ x ∷ ys)
front xs x ys = IsPermutation-sym (xs ++ x ∷ ys) (x ∷ (xs ++ ys)) (IsPermutation-middle xs x ys)

-- nothing more is asked for
known_passed : (called : List (Option Called)) (heard : List Message) (w : Message) → session_asked w ≡ None → sessions_known called (heard ++ w ∷ []) ≡ sessions_known called heard
known_passed called heard w none =
    ap (λ l. filter_map (option_map session_called) called ++ l)
    (filter_map-append session_asked heard (w ∷ []) ∙ (ap (λ (o : Option (ℕ × ℕ)). filter_map session_asked heard ++ cons_option o []) none ∙ append-nil (filter_map session_asked heard)))

-- a message asks to serve
known_asked : (called : List (Option Called)) (heard : List Message) (w : Message) (e : ℕ × ℕ) → session_asked w ≡ Some e → IsPermutation (e ∷ sessions_known called heard) (sessions_known called (heard ++ w ∷ []))
known_asked called heard w e is =
    let known = sessions_known called heard in
    let more : sessions_known called (heard ++ w ∷ []) ≡ known ++ e ∷ [] =
    ap (λ l. filter_map (option_map session_called) called ++ l) (filter_map-append session_asked heard (w ∷ []) ∙ ap (λ (o : Option (ℕ × ℕ)). filter_map session_asked heard ++ cons_option o []) is)
    ∙ sym (append_assoc (filter_map (option_map session_called) called) (filter_map session_asked heard) (e ∷ [])) in
    subst (λ l. IsPermutation (e ∷ known) l) (sym more) (IsPermutation-sym (known ++ e ∷ []) (e ∷ known) (IsPermutation-to_front known e))

set_more : (called : List (Option Called)) (place : ℕ) (c : Called) → slice_get called place ≡ Some None
    → IsPermutation (session_called c ∷ filter_map (option_map session_called) called) (filter_map (option_map session_called) (slice_set called place (Some c)))
set_more [] place c free = cc
set_more (None ∷ called) zero c free = IsPermutation-refl (session_called c ∷ filter_map (option_map session_called) called)
set_more (Some d ∷ called) zero c free = cc
set_more (None ∷ called) (suc place) c free = set_more called place c free
set_more (Some d ∷ called) (suc place) c free =
    let rest = filter_map (option_map session_called) called in
    let rest' = filter_map (option_map session_called) (slice_set called place (Some c)) in
    IsPermutation-trans (session_called c ∷ session_called d ∷ rest) (session_called d ∷ session_called c ∷ rest) (session_called d ∷ rest') (front (session_called d ∷ []) (session_called c) rest)
    (IsPermutation-cons (session_called d) (session_called c ∷ rest) rest' (set_more called place c free))

-- a call is let through
known_called : (called : List (Option Called)) (place : ℕ) (c : Called) (heard : List Message) (w : Message) → slice_get called place ≡ Some None → session_asked w ≡ None
    → IsPermutation (session_called c ∷ sessions_known called heard) (sessions_known (slice_set called place (Some c)) (heard ++ w ∷ []))
known_called called place c heard w free none =
    subst (λ l. IsPermutation (session_called c ∷ sessions_known called heard) l) (sym (known_passed (slice_set called place (Some c)) heard w none))
    (IsPermutation-append_left (filter_map session_asked heard) (session_called c ∷ filter_map (option_map session_called) called) (filter_map (option_map session_called) (slice_set called place (Some c))) (set_more called place c free))

-- ---- one that is held more

at_opened : {A : Type 0} (f u o l : List A) (e : A) → f ++ ((u ++ (o ++ e ∷ [])) ++ l) ≡ (f ++ (u ++ o)) ++ e ∷ l
at_opened f u o l e = simp append_assoc

at_unsaid : {A : Type 0} (f u o l : List A) (e : A) → f ++ (((u ++ e ∷ []) ++ o) ++ l) ≡ (f ++ u) ++ e ∷ (o ++ l)
at_unsaid f u o l e = simp append_assoc

without_one : {A : Type 0} (f u o l : List A) → (f ++ u) ++ (o ++ l) ≡ f ++ ((u ++ o) ++ l)
without_one f u o l = simp append_assoc

held_opened : (said : List Message) (unsaid opened : List SessionEnd) (lost : List (ℕ × ℕ)) (o : SessionEnd)
    → IsPermutation (session_of_end o ∷ sessions_held said unsaid opened lost) (sessions_held said unsaid (opened ++ o ∷ []) lost)
held_opened said unsaid opened lost o =
    let f = filter_map session_told said in
    let u = map session_of_end unsaid in
    let os = map session_of_end opened in
    let now : sessions_held said unsaid (opened ++ o ∷ []) lost ≡ (f ++ (u ++ os)) ++ session_of_end o ∷ lost =
    ap (λ l. f ++ ((u ++ l) ++ lost)) (map-append session_of_end opened (o ∷ [])) ∙ at_opened f u os lost (session_of_end o) in
    subst (λ l. IsPermutation (session_of_end o ∷ sessions_held said unsaid opened lost) l) (sym now)
    (subst (λ l. IsPermutation (session_of_end o ∷ l) ((f ++ (u ++ os)) ++ session_of_end o ∷ lost)) (append_assoc f (u ++ os) lost) (front (f ++ (u ++ os)) (session_of_end o) lost))

held_unsaid : (said : List Message) (unsaid opened : List SessionEnd) (lost : List (ℕ × ℕ)) (e : SessionEnd)
    → IsPermutation (session_of_end e ∷ sessions_held said unsaid opened lost) (sessions_held said (unsaid ++ e ∷ []) opened lost)
held_unsaid said unsaid opened lost e =
    let f = filter_map session_told said in
    let u = map session_of_end unsaid in
    let os = map session_of_end opened in
    let now : sessions_held said (unsaid ++ e ∷ []) opened lost ≡ (f ++ u) ++ session_of_end e ∷ (os ++ lost) =
    ap (λ l. f ++ ((l ++ os) ++ lost)) (map-append session_of_end unsaid (e ∷ [])) ∙ at_unsaid f u os lost (session_of_end e) in
    subst (λ l. IsPermutation (session_of_end e ∷ sessions_held said unsaid opened lost) l) (sym now)
    (subst (λ l. IsPermutation (session_of_end e ∷ l) ((f ++ u) ++ session_of_end e ∷ (os ++ lost))) (without_one f u os lost) (front (f ++ u) (session_of_end e) (os ++ lost)))

-- one more on both sides
both_more : {A : Type 0} (e : A) (held held' known known' : List A) → IsPermutation (e ∷ held) held' → IsPermutation (e ∷ known) known' → IsPermutation held known → IsPermutation held' known'
both_more e held held' known known' p q h =
    IsPermutation-trans held' (e ∷ held) known' (IsPermutation-sym (e ∷ held) held' p) (IsPermutation-trans (e ∷ held) (e ∷ known) known' (IsPermutation-cons e held known h) q)

-- ---- a message is heard

pub kept_passed : (over : Option ControlEnd) (called : List (Option Called)) (unsaid opened : List SessionEnd) (heard said : List Message) (w : Message) → session_asked w ≡ None
    → AreKept over called unsaid opened heard said → AreKept over called unsaid opened (heard ++ w ∷ []) said
kept_passed over called unsaid opened heard said w none k = record {
  lost = k.lost;
  none_lost = k.none_lost;
  are = subst (λ l. IsPermutation (sessions_held said unsaid opened k.lost) l) (sym (known_passed called heard w none)) k.are;
}

pub kept_called : (over : Option ControlEnd) (called : List (Option Called)) (unsaid opened : List SessionEnd) (heard said : List Message) (w : Message) (place : ℕ) (c : Called) → slice_get called place ≡ Some None
    → session_asked w ≡ None → AreKept over called unsaid opened heard said
    → AreKept over (slice_set called place (Some c)) unsaid (opened ++ record { domain = c.to; port = c.port; call = Some place } ∷ []) (heard ++ w ∷ []) said
kept_called over called unsaid opened heard said w place c free none k =
    let o : SessionEnd = record { domain = c.to; port = c.port; call = Some place } in
    record {
      lost = k.lost;
      none_lost = k.none_lost;
      are = both_more (session_called c) (sessions_held said unsaid opened k.lost) (sessions_held said unsaid (opened ++ o ∷ []) k.lost) (sessions_known called heard) (sessions_known (slice_set called place (Some c)) (heard ++ w ∷ []))
          (held_opened said unsaid opened k.lost o) (known_called called place c heard w free none) k.are;
    }

pub kept_served : (over : Option ControlEnd) (called : List (Option Called)) (unsaid opened : List SessionEnd) (heard said : List Message) (w : Message) (o : SessionEnd) → session_asked w ≡ Some (session_of_end o)
    → AreKept over called unsaid opened heard said → AreKept over called unsaid (opened ++ o ∷ []) (heard ++ w ∷ []) said
kept_served over called unsaid opened heard said w o asks k = record {
  lost = k.lost;
  none_lost = k.none_lost;
  are = both_more (session_of_end o) (sessions_held said unsaid opened k.lost) (sessions_held said unsaid (opened ++ o ∷ []) k.lost) (sessions_known called heard) (sessions_known called (heard ++ w ∷ []))
      (held_opened said unsaid opened k.lost o) (known_asked called heard w (session_of_end o) asks) k.are;
}

pub kept_unserved : (over : Option ControlEnd) (called : List (Option Called)) (unsaid opened : List SessionEnd) (heard said : List Message) (w : Message) (e : SessionEnd) → session_asked w ≡ Some (session_of_end e)
    → AreKept over called unsaid opened heard said → AreKept over called (unsaid ++ e ∷ []) opened (heard ++ w ∷ []) said
kept_unserved over called unsaid opened heard said w e asks k = record {
  lost = k.lost;
  none_lost = k.none_lost;
  are = both_more (session_of_end e) (sessions_held said unsaid opened k.lost) (sessions_held said (unsaid ++ e ∷ []) opened k.lost) (sessions_known called heard) (sessions_known called (heard ++ w ∷ []))
      (held_unsaid said unsaid opened k.lost e) (known_asked called heard w (session_of_end e) asks) k.are;
}

-- ---- more is sent

ends_told : (told : List SessionEnd) → filter_map session_told (map terminated told) ≡ map session_of_end told
ends_told [] = refl
ends_told (e ∷ told) = ap (λ l. session_of_end e ∷ l) (ends_told told)

none_told : (m : Message) → is_some (asking m) ≡ true → session_told m ≡ None
none_told (m.Terminated d p) h = cc
none_told _ h = cc

triggers_told : (ms : List Message) → Each (λ m. is_some (asking m) ≡ true) ms → filter_map session_told ms ≡ []
triggers_told [] each = refl
triggers_told (x ∷ ms) each = ap (λ (o : Option (ℕ × ℕ)). cons_option o (filter_map session_told ms)) (none_told x each.0) ∙ triggers_told ms each.1

spoken_told : (calls : ℕ) (told waiting : List SessionEnd) (more : List Message) → IsSpoken calls told waiting more → filter_map session_told more ≡ map session_of_end told
spoken_told calls told waiting more h =
    ap (λ l. filter_map session_told l) h.is
    ∙ (filter_map-append session_told (map terminated told) h.triggers
    ∙ (ap (λ l. filter_map session_told (map terminated told) ++ l) (triggers_told h.triggers h.each) ∙ (append-nil (filter_map session_told (map terminated told)) ∙ ends_told told)))

move_told : {A : Type 0} (f t n o l : List A) → (f ++ t) ++ ((n ++ o) ++ l) ≡ f ++ (((t ++ n) ++ o) ++ l)
move_told f t n o l = simp append_assoc

pub kept_said : (over : Option ControlEnd) (called : List (Option Called)) (old new told opened : List SessionEnd) (heard said more : List Message) (calls : ℕ) → old ≡ told ++ new → IsSpoken calls told new more
    → AreKept over called old opened heard said → AreKept over called new opened heard (said ++ more)
kept_said over called old new told opened heard said more calls split spoken k = record {
  lost = k.lost;
  none_lost = k.none_lost;
  are = subst (λ l. IsPermutation l (sessions_known called heard)) (sym same) k.are;
}
  where
    f : List (ℕ × ℕ)
    f = filter_map session_told said

    same : sessions_held (said ++ more) new opened k.lost ≡ sessions_held said old opened k.lost
    same =
        ap (λ l. l ++ ((map session_of_end new ++ map session_of_end opened) ++ k.lost)) (filter_map-append session_told said more ∙ ap (λ l. f ++ l) (spoken_told calls told new more spoken))
        ∙ (move_told f (map session_of_end told) (map session_of_end new) (map session_of_end opened) k.lost
        ∙ ap (λ l. f ++ ((l ++ map session_of_end opened) ++ k.lost)) (sym (ap (λ l. map session_of_end l) split ∙ map-append session_of_end told new)))

-- ---- sessions are over

overs : (told opened opened' : List SessionEnd) → IsPermutation (told ++ opened') opened → IsPermutation (map session_of_end told ++ map session_of_end opened') (map session_of_end opened)
overs told opened opened' p = subst (λ l. IsPermutation l (map session_of_end opened)) (map-append session_of_end told opened') (IsPermutation-map session_of_end (told ++ opened') opened p)

move_over : {A : Type 0} (f u t o l : List A) → f ++ (((u ++ t) ++ o) ++ l) ≡ f ++ ((u ++ (t ++ o)) ++ l)
move_over f u t o l = simp append_assoc

move_lost : {A : Type 0} (f u o t l : List A) → f ++ ((u ++ o) ++ (t ++ l)) ≡ f ++ ((u ++ (o ++ t)) ++ l)
move_lost f u o t l = simp append_assoc

inside : {A : Type 0} (f u l xs ys : List A) → IsPermutation xs ys → IsPermutation (f ++ ((u ++ xs) ++ l)) (f ++ ((u ++ ys) ++ l))
inside f u l xs ys p = IsPermutation-append_right f ((u ++ xs) ++ l) ((u ++ ys) ++ l) (IsPermutation-append_left l (u ++ xs) (u ++ ys) (IsPermutation-append_right u xs ys p))

-- and are to be reported
pub kept_over : (over : Option ControlEnd) (called : List (Option Called)) (unsaid unsaid' opened opened' told : List SessionEnd) (heard said : List Message) → unsaid' ≡ unsaid ++ told
    → IsPermutation (told ++ opened') opened → AreKept over called unsaid opened heard said → AreKept over called unsaid' opened' heard said
kept_over over called unsaid unsaid' opened opened' told heard said more p k = record {
  lost = k.lost;
  none_lost = k.none_lost;
  are = subst (λ l. IsPermutation l (sessions_known called heard)) (sym same)
      (IsPermutation-trans (f ++ ((u ++ (t ++ o')) ++ k.lost)) (sessions_held said unsaid opened k.lost) (sessions_known called heard) (inside f u k.lost (t ++ o') (map session_of_end opened) (overs told opened opened' p)) k.are);
}
  where
    f : List (ℕ × ℕ)
    f = filter_map session_told said

    u : List (ℕ × ℕ)
    u = map session_of_end unsaid

    t : List (ℕ × ℕ)
    t = map session_of_end told

    o' : List (ℕ × ℕ)
    o' = map session_of_end opened'

    same : sessions_held said unsaid' opened' k.lost ≡ f ++ ((u ++ (t ++ o')) ++ k.lost)
    same =
        ap (λ l. f ++ ((l ++ o') ++ k.lost)) (ap (λ l. map session_of_end l) more ∙ map-append session_of_end unsaid told)
        ∙ move_over f u t o' k.lost

-- or are lost, if the control channel is over
pub kept_lost : (how : ControlEnd) (called : List (Option Called)) (unsaid opened opened' told : List SessionEnd) (heard said : List Message) → IsPermutation (told ++ opened') opened
    → AreKept (Some how) called unsaid opened heard said → AreKept (Some how) called unsaid opened' heard said
kept_lost how called unsaid opened opened' told heard said p k = record {
  lost = t ++ k.lost;
  none_lost = λ none. cc;
  are = subst (λ l. IsPermutation l (sessions_known called heard)) (sym (move_lost f u o' t k.lost))
      (IsPermutation-trans (f ++ ((u ++ (o' ++ t)) ++ k.lost)) (sessions_held said unsaid opened k.lost) (sessions_known called heard)
      (inside f u k.lost (o' ++ t) (map session_of_end opened) (IsPermutation-trans (o' ++ t) (t ++ o') (map session_of_end opened) (IsPermutation-append_comm o' t) (overs told opened opened' p))) k.are);
}
  where
    f : List (ℕ × ℕ)
    f = filter_map session_told said

    u : List (ℕ × ℕ)
    u = map session_of_end unsaid

    t : List (ℕ × ℕ)
    t = map session_of_end told

    o' : List (ℕ × ℕ)
    o' = map session_of_end opened'

-- the control channel is over
pub kept_still : (over : Option ControlEnd) (how : ControlEnd) (called : List (Option Called)) (unsaid opened : List SessionEnd) (heard said : List Message) → AreKept over called unsaid opened heard said
    → AreKept (Some how) called unsaid opened heard said
kept_still over how called unsaid opened heard said k = record { lost = k.lost; none_lost = λ none. cc; are = k.are }

-- ---- what is told

owed_known : (asked : List Asked) → filter_map (option_map session_called) (map called_of asked) ≡ filter_map (λ a. session_of_answer a.answer) asked
owed_known [] = refl
owed_known (a ∷ asked) = ap (λ (o : Option (ℕ × ℕ)). cons_option o (filter_map (option_map session_called) (map called_of asked))) (by_answer a.call a.answer) ∙ ap (λ l. cons_option (session_of_answer a.answer) l) (owed_known asked)
  where
    by_answer : (call : CallPlan) (x : Answer) → option_map session_called (called_by call x) ≡ session_of_answer x
    by_answer call Waits = refl
    by_answer call _ = refl

known_owed : (called : List (Option Called)) (asked : List Asked) (heard : List Message) → called ≡ map called_of asked → sessions_known called heard ≡ sessions_owed asked heard
known_owed called asked heard is = ap (λ (l : List (Option Called)). sessions_known l heard) is ∙ ap (λ l. l ++ filter_map session_asked heard) (owed_known asked)

-- at most once for each that is owed
pub kept_told : (over : Option ControlEnd) (called : List (Option Called)) (asked : List Asked) (unsaid opened : List SessionEnd) (heard said : List Message) → called ≡ map called_of asked
    → AreKept over called unsaid opened heard said → IsPartOf (filter_map session_told said) (sessions_owed asked heard)
kept_told over called asked unsaid opened heard said is k =
    ((map session_of_end unsaid ++ map session_of_end opened) ++ k.lost, subst (λ l. IsPermutation (sessions_held said unsaid opened k.lost) l) (known_owed called asked heard is) k.are)

-- while the control channel is up, each that wasn't reported waits or is open
pub kept_waits : (called : List (Option Called)) (asked : List Asked) (unsaid opened : List SessionEnd) (heard said : List Message) → called ≡ map called_of asked → AreKept None called unsaid opened heard said
    → IsPermutation (filter_map session_told said ++ (map session_of_end unsaid ++ map session_of_end opened)) (sessions_owed asked heard)
kept_waits called asked unsaid opened heard said is k = subst (λ l. IsPermutation l (sessions_owed asked heard)) none (subst (λ l. IsPermutation (sessions_held said unsaid opened k.lost) l) (known_owed called asked heard is) k.are)
  where
    waiting : List (ℕ × ℕ)
    waiting = map session_of_end unsaid ++ map session_of_end opened

    none : sessions_held said unsaid opened k.lost ≡ filter_map session_told said ++ waiting
    none = ap (λ l. filter_map session_told said ++ (waiting ++ l)) (k.none_lost refl) ∙ ap (λ l. filter_map session_told said ++ l) (append-nil waiting)

-- before anything is heard
pub kept_first : (calls : List CallPlan) (called : List (Option Called)) (unsaid opened : List SessionEnd) → called ≡ map called_of (map (λ call. record { call = call; answer = Waits }) calls) → unsaid ≡ [] → opened ≡ []
    → AreKept None called unsaid opened [] []
kept_first calls called unsaid opened called_is none shut = record {
  lost = [];
  none_lost = λ h. refl;
  are = subst (λ (l : List (ℕ × ℕ)). IsPermutation l (sessions_known called [])) (sym held) (subst (λ (l : List (ℕ × ℕ)). IsPermutation [] l) (sym known) (IsPermutation-refl []));
}
  where
    held : sessions_held [] unsaid opened [] ≡ []
    held = ap (λ (l : List SessionEnd). (map session_of_end l ++ map session_of_end opened) ++ []) none ∙ ap (λ (l : List SessionEnd). map session_of_end l ++ []) shut

    none_yet : (calls : List CallPlan) → filter_map (option_map session_called) (map called_of (map (λ call. record { call = call; answer = Waits }) calls)) ≡ []
    none_yet [] = refl
    none_yet (c ∷ calls) = none_yet calls

    known : sessions_known called [] ≡ []
    known = append-nil (filter_map (option_map session_called) called) ∙ (ap (λ (l : List (Option Called)). filter_map (option_map session_called) l) called_is ∙ none_yet calls)
