-- Replies are counted: if as many triggers of a domain were answered as it has in the journal, its outbox has one reply to each.
use Rattle.std.proofs.Common.{◌≡◌, ◌≢◌, ℕ, ◌+◌, ◌≤◌, List, [], ◌∷◌, ◌++◌, length, map, refl, sym, ◌∙◌, arith, inl, inr, Option, Some, None, subst}
use Rattle.std.specs.Prelude.{true, false, Bool, ◌==◌, bytes_eq, filter, is_some, if◌then◌else◌}
use Rattle.std.proofs.lemmas.Bool.Decides.{nat_tests}
use Rattle.std.proofs.lemmas.Slice.Eq.{bytes_eq-Decides}
use Rattle.std.specs.List.{AllByRecursion as Each}
use Rattle.list_laws.specs.Lists.{AreDifferent}
use Rattle.list_laws.proofs.Tests.{same_bytes}
use Rattle.qrexec_frame.specs.Names.{cleaned_service}
use Rattle.qrexec_frame.specs.declared.message.Message.{Message}
use Rattle.qrexec_frame.specs.declared.message.Message.TheVariants as m
use Rattle.call_broker.specs.declared.decision.Entry.{Entry}
use Rattle.call_broker.specs.declared.event.Event.{Event}
use Rattle.call_broker.specs.declared.event.Event.TheVariants.{Trigger, Terminated, Dropped}
use Rattle.call_broker.specs.declared.decision.Decision.{Decision}
use Rattle.call_broker.specs.declared.decision.Decision.TheVariants.{Accepted, Refused, Ended, PassedOver}
use Rattle.call_broker.specs.Domains.{Domains, name_of}
use Rattle.scenario_file.specs.declared.scenario.CallPlan.{CallPlan}
use Rattle.task_duties.specs.Words.{ident_of, exec_line}
use Rattle.task_duties.specs.Broker.Outbox.{only_if, puts, outbox, is_answer}
use Rattle.task_duties.specs.Agent.Saying.{Asking, asking_of}
use Rattle.task_duties.proofs.Elements.{Has, has_map_back, each_at, tally, tally_append}
use Rattle.task_duties.proofs.JournalLaw.{asked_event, asked_in}
use Rattle.run_laws.specs.Lawful.{is_reply, replies}
use Rattle.run_laws.specs.Laws.{IsOne}
use Rattle.run_laws.proofs.Scenarios.Calls.{idents}

-- ---- answered entries

abbrev pub answers_in : List Entry → ℕ → List Entry
answers_in journal d = filter (λ x. is_answer d x.event x.decision) journal

-- an answered entry is a trigger of the domain
answer_asks : (d : ℕ) (e : Event) (decision : Decision) → is_answer d e decision ≡ true → is_some (asked_event d e) ≡ true
answer_asks d (Trigger from target service ident) (Accepted to port) h = rw h refl
answer_asks d (Trigger from target service ident) (Refused cause) h = rw h refl
answer_asks d (Trigger from target service ident) (Ended a b port) h = cc
answer_asks d (Trigger from target service ident) PassedOver h = cc
answer_asks d (Terminated from other port) decision h = cc
answer_asks d (Dropped domain) decision h = cc

abbrev pub IsAnsweredEntry : ℕ → Entry → Type 0
IsAnsweredEntry d x = is_some (asked_event d x.event) ≡ true → is_answer d x.event x.decision ≡ true

pub record Counted (d : ℕ) (journal : List Entry) : Type 0 where
  pub most : length (answers_in journal d) ≤ length (asked_in journal d)
  pub all : length (asked_in journal d) ≤ length (answers_in journal d) → Each (IsAnsweredEntry d) journal

pub counted : (d : ℕ) (journal : List Entry) → Counted d journal
counted d [] = record { most = omega arith; all = λ h. tt }
counted d (x ∷ journal) = by_tests (is_answer d x.event x.decision) refl (asked_event d x.event) refl (counted d journal)
  where
    by_tests : (b : Bool) → is_answer d x.event x.decision ≡ b → (o : Option Asking) → asked_event d x.event ≡ o → Counted d journal → Counted d (x ∷ journal)
    by_tests true is (Some a) asks more = record {
      most = rw (is, asks) (let k = more.most in omega (arith, k));
      all = λ h. ((λ some. is), more.all (let h' = rw (is, asks) at h in omega (arith, h')));
    }
    by_tests true is None none more = let bad = answer_asks d x.event x.decision is in let bad' = rw none at bad in cc
    by_tests false is (Some a) asks more = record {
      most = rw (is, asks) (let k = more.most in omega (arith, k));
      all = λ h. absurd (let h' = rw (is, asks) at h in let k = more.most in omega (arith, h', k));
    }
    by_tests false is None none more = record {
      most = rw (is, none) more.most;
      all = λ h. ((λ some. let bad = rw none at some in cc), more.all (let h' = rw (is, none) at h in h'));
    }

-- ---- replies

abbrev pub reply_count : List ℕ → Message → ℕ
reply_count ident x = if is_reply ident x then 1 else 0

abbrev pub ask_count : List ℕ → Asking → ℕ
ask_count ident a = if bytes_eq a.ident ident then 1 else 0

abbrev pub ask_of : List ℕ → Option Asking → ℕ
ask_of ident None = 0
ask_of ident (Some a) = ask_count ident a

flip : (a b : ℕ) (c : Bool) → (a == b) ≡ c → (b == a) ≡ c
flip a b true h = let e : a ≡ b = grind (arith, nat_tests, h) in grind (arith, nat_tests)
flip a b false h = grind (arith, nat_tests, h)

entry_replies : (hub : Domains) (d : ℕ) (ident : List ℕ) (e : Event) (decision : Decision) → (is_some (asked_event d e) ≡ true → is_answer d e decision ≡ true)
    → tally (reply_count ident) (puts hub d e decision) ≡ ask_of ident (asked_event d e)
entry_replies hub d ident (Trigger from target service i) (Accepted to port) answered = by_tests (from == d) refl (d == to)
  where
    by_tests : (x : Bool) → (from == d) ≡ x → (y : Bool)
        → tally (reply_count ident) (only_if (d == from) (m.Connect to port i) ++ only_if y (m.Exec from port (exec_line (cleaned_service service) (name_of hub from)))) ≡ ask_of ident (asked_event d (Trigger from target service i))
    by_tests true is true = let f = flip from d true is in rw (is, f) (omega arith)
    by_tests true is false = let f = flip from d true is in rw (is, f) (omega arith)
    by_tests false is true = let f = flip from d false is in rw (is, f) refl
    by_tests false is false = let f = flip from d false is in rw (is, f) refl
entry_replies hub d ident (Trigger from target service i) (Refused cause) answered = by_test (from == d) refl
  where
    by_test : (x : Bool) → (from == d) ≡ x → tally (reply_count ident) (only_if (d == from) (m.Refused i)) ≡ ask_of ident (asked_event d (Trigger from target service i))
    by_test true is = let f = flip from d true is in rw (is, f) (omega arith)
    by_test false is = let f = flip from d false is in rw (is, f) refl
entry_replies hub d ident (Trigger from target service i) (Ended a b port) answered = by_test (from == d) refl answered
  where
    by_test : (x : Bool) → (from == d) ≡ x → (is_some (asked_event d (Trigger from target service i)) ≡ true → false ≡ true) → 0 ≡ ask_of ident (asked_event d (Trigger from target service i))
    by_test true is a = let no = a (rw is refl) in cc
    by_test false is a = rw is refl
entry_replies hub d ident (Trigger from target service i) PassedOver answered = by_test (from == d) refl answered
  where
    by_test : (x : Bool) → (from == d) ≡ x → (is_some (asked_event d (Trigger from target service i)) ≡ true → false ≡ true) → 0 ≡ ask_of ident (asked_event d (Trigger from target service i))
    by_test true is a = let no = a (rw is refl) in cc
    by_test false is a = rw is refl
entry_replies hub d ident (Terminated from other port) decision answered = refl
entry_replies hub d ident (Dropped domain) decision answered = refl

asked_more : (d : ℕ) (ident : List ℕ) (x : Entry) (journal : List Entry) (o : Option Asking) → asked_event d x.event ≡ o
    → tally (ask_count ident) (asked_in (x ∷ journal) d) ≡ ask_of ident o + tally (ask_count ident) (asked_in journal d)
asked_more d ident x journal None is = rw is (omega arith)
asked_more d ident x journal (Some a) is = rw is refl

-- the outbox has as many replies to an ident as the journal has triggers of it
pub outbox_replies : (hub : Domains) (d : ℕ) (ident : List ℕ) (journal : List Entry) → Each (IsAnsweredEntry d) journal
    → tally (reply_count ident) (outbox hub journal d) ≡ tally (ask_count ident) (asked_in journal d)
outbox_replies hub d ident [] each = refl
outbox_replies hub d ident (x ∷ journal) each =
    let here = entry_replies hub d ident x.event x.decision each.0 in
    let more = outbox_replies hub d ident journal each.1 in
    let both = tally_append (reply_count ident) (puts hub d x.event x.decision) (outbox hub journal d) in
    let asked = asked_more d ident x journal (asked_event d x.event) refl in
    omega (arith, here, more, both, asked)

-- ---- one call of an ident

bytes_other : (xs ys : List ℕ) → xs ≢ ys → bytes_eq xs ys ≡ false
bytes_other xs ys apart = by_test (bytes_eq xs ys) refl
  where
    by_test : (b : Bool) → bytes_eq xs ys ≡ b → b ≡ false
    by_test false is = refl
    by_test true is = absurd (apart ((bytes_eq-Decides xs ys).0 is))

none_asks : (ident : List ℕ) (calls : List CallPlan) → Each (λ (i : List ℕ). ident ≢ i) (idents calls) → tally (ask_count ident) (map asking_of calls) ≡ 0
none_asks ident [] each = refl
none_asks ident (c ∷ calls) each = let no = bytes_other (ident_of c.number) ident (λ e. each.0 (sym e)) in rw no (let more = none_asks ident calls each.1 in omega (arith, more))

pub one_asks : (calls : List CallPlan) → AreDifferent (idents calls) → (call : CallPlan) → Has calls call → tally (ask_count (ident_of call.number)) (map asking_of calls) ≡ 1
one_asks [] differ call there = absurd there
one_asks (c ∷ calls) differ call (inl here) = subst (λ x. tally (ask_count (ident_of x.number)) (map asking_of (c ∷ calls)) ≡ 1) here first
  where
    first : tally (ask_count (ident_of c.number)) (map asking_of (c ∷ calls)) ≡ 1
    first = let same = same_bytes (ident_of c.number) in let none = none_asks (ident_of c.number) calls differ.0 in rw same (omega (arith, none))
one_asks (c ∷ calls) differ call (inr later) =
    let apart = each_at (λ (i : List ℕ). ident_of c.number ≢ i) (idents calls) (ident_of call.number) differ.0 (has_map_back (λ x. ident_of x.number) calls call later) in
    let no = bytes_other (ident_of c.number) (ident_of call.number) apart in
    let more = one_asks calls differ.1 call later in
    rw no (omega (arith, more))

-- ---- one reply

length_replies : (ident : List ℕ) (heard : List Message) → length (replies ident heard) ≡ tally (reply_count ident) heard
length_replies ident [] = refl
length_replies ident (x ∷ heard) = by_test (is_reply ident x) refl (length_replies ident heard)
  where
    by_test : (b : Bool) → is_reply ident x ≡ b → length (replies ident heard) ≡ tally (reply_count ident) heard → length (if b then x ∷ replies ident heard else replies ident heard) ≡ (if b then 1 else 0) + tally (reply_count ident) heard
    by_test true is more = omega (arith, more)
    by_test false is more = omega (arith, more)

one_is : (ms : List Message) → length ms ≡ 1 → IsOne ms
one_is [] h = absurd (omega (arith, h))
one_is (x ∷ []) h = tt
one_is (x ∷ y ∷ ms) h = absurd (omega (arith, h))

pub is_one : (ident : List ℕ) (heard : List Message) → tally (reply_count ident) heard ≡ 1 → IsOne (replies ident heard)
is_one ident heard h = one_is (replies ident heard) (length_replies ident heard ∙ h)
