-- The replies to events: that they have room and a receiver, and the entry that they are made for.
use Rattle.std.proofs.Common.{◌≡◌, ℕ, ◌+◌, ◌-◌, ◌≤◌, List, [], ◌∷◌, ◌++◌, length, take, drop, get_or, true, refl, sym, ap, ◌∙◌, subst, arith, length-append}
use Rattle.std.specs.Prelude.{nat_le}
use Rattle.std.proofs.lemmas.Grind.{common_steps}
use Rattle.std.proofs.lemmas.Bool.Decides.{nat_tests}
use Rattle.std.proofs.lemmas.List.{length-map}
use Rattle.std.proofs.lemmas.Bool.{and_parts}
use Rattle.list_laws.proofs.Tests.{same_number}
use Rattle.qrexec_frame.specs.Texts.{FitsText, HasNoNul}
use Rattle.qrexec_frame.specs.Names.{cleaned_service, cleaned_target}
use Rattle.call_broker.specs.declared.event.Event.{Event}
use Rattle.call_broker.specs.declared.event.Event.TheVariants.{Trigger, Terminated, Dropped}
use Rattle.call_broker.specs.Domains.{Domains, is_domain, name_of, count_of}
use Rattle.call_broker.specs.Brokered.{Brokered, with_entry}
use Rattle.call_broker.specs.Pair.{decision}
use Rattle.call_broker.specs.declared.decision.Decision.{Decision}
use Rattle.call_broker.specs.declared.decision.Decision.TheVariants as outcome
use Rattle.call_broker.specs.declared.decision.Entry.{Entry}
use Rattle.call_broker.proofs.OpenLaws.{taken_view, domain_found}
use Rattle.call_broker.specs.Journal.{IsNumbered}
use Rattle.task_duties.specs.Words.{exec_line, user}
use Rattle.task_duties.specs.Broker.Outbox.{is_from}
use Rattle.broker_task.specs.declared.daemon.Daemon.{Daemon}
use Rattle.broker_task.specs.Lines.{HasRoom}
use Rattle.broker_task.specs.Posting.{EachMoves}
use Rattle.broker_task.specs.Replies.{HasShortNames, IsReplyTo, IsWithin}
use Rattle.broker_task.specs.declared.reply.Reply.{Reply}
use Rattle.broker_task.specs.declared.reply.Reply.TheVariants.{Nothing, Refused, Accepted}

line_length : (service name : List ℕ) → length (exec_line service name) ≡ 18 + length service + length name
line_length service name = omega (arith, length-append user (service ++ (32 ∷ [] ++ name)), length-append service (32 ∷ [] ++ name), length-append (32 ∷ []) name)

pub line_fits : (hub : Domains) (event : Event) (from : ℕ) (target service ident line : List ℕ) → event ≡ Trigger from target service ident → IsNumbered hub event → HasRoom event → HasShortNames hub
    → line ≡ exec_line (cleaned_service service) (name_of hub from) → HasNoNul line → FitsText 65527 line
line_fits hub event from target service ident line is numbered room short line_is no_nul =
    let numbered' : is_domain hub from ≡ true = subst (IsNumbered hub) is numbered in
    let room' : FitsText 31 ident × FitsText 65439 service = subst HasRoom is room in
    let name = short from numbered' in
    let long = ap (λ (l : List ℕ). length l) line_is ∙ line_length (cleaned_service service) (name_of hub from) in
    let clean : length (cleaned_service service) ≡ length service = simp length-map in
    record { within = omega (arith, long, clean, name, room'.1.within); no_nul = no_nul }

-- a call is accepted for a domain that exists
pub within_reply : (hub : Domains) (before : List Event) (event : Event) (decided : Decision) (reply : Reply) → decided ≡ decision hub before event → IsReplyTo hub event decided reply → IsWithin (count_of hub) reply
within_reply hub before event decided Nothing is says = tt
within_reply hub before event decided (Refused m) is says = tt
within_reply hub before (Trigger from target service ident) (outcome.Accepted to port) (Accepted d exec connect) is says =
    let taken = taken_view hub before from target service ident to port (sym is) in
    let there : is_domain hub to ≡ true = domain_found hub (cleaned_target target) to taken.named in
    let bounds = and_parts (nat_le 1 to) (nat_le to (count_of hub)) there in
    let low : 1 ≤ to = grind (arith, nat_tests, bounds.0) in
    let high : to ≤ count_of hub = grind (arith, nat_tests, bounds.1) in
    subst (λ n. (1 ≤ n) × (n ≤ count_of hub)) (sym says.0) (low, high)
within_reply hub before (Trigger from target service ident) (outcome.Refused cause) (Accepted d exec connect) is says = absurd says
within_reply hub before (Trigger from target service ident) (outcome.Ended a b port) (Accepted d exec connect) is says = absurd says
within_reply hub before (Trigger from target service ident) outcome.PassedOver (Accepted d exec connect) is says = absurd says
within_reply hub before (Terminated from other port) decided (Accepted d exec connect) is says = absurd says
within_reply hub before (Dropped domain) decided (Accepted d exec connect) is says = absurd says

-- the entry that was put last
pub last_entry : (journal : List Entry) (e d : Entry) (n : ℕ) → n ≡ length (journal ++ e ∷ []) → d ≡ get_or (journal ++ e ∷ []) (n - 1) d → d ≡ e
last_entry journal e d n long is =
    let place : n - 1 ≡ length journal = omega (arith, long, length-append journal (e ∷ [])) in
    is ∙ ap (λ k. get_or (journal ++ e ∷ []) k d) place ∙ at_end journal
  where
    at_end : (xs : List Entry) → get_or (xs ++ e ∷ []) (length xs) d ≡ e
    at_end [] = refl
    at_end (x ∷ xs) = at_end xs

-- the last entry of the journal that an event was put into is that of the event
pub journal_end : (old new : Brokered) (after : List Entry) (e d : Entry) → after ≡ new.journal → new ≡ with_entry old e.event e.decision → d ≡ get_or after (length after - 1) d → get_or after (length after - 1) d ≡ e
journal_end old new after e d entries kept is =
    let journal_is : after ≡ old.journal ++ e ∷ [] = entries ∙ ap (λ (b : Brokered). b.journal) kept in
    sym is ∙ last_entry old.journal e d (length after) (ap (λ (l : List Entry). length l) journal_is) (is ∙ ap (λ (l : List Entry). get_or l (length after - 1) d) journal_is)

-- a slice of all of a list, once it was written to
pub written_back : {A : Type 0} (new old : List A) (n : ℕ) → length new ≡ length old → n ≡ length old → take n (new ++ drop (length new) old) ≡ new
written_back new old n same all = grind (arith, common_steps, same, all)

pub moved_back : (R : ℕ → Daemon → Daemon → Type 0) (old new : List Daemon) (n : ℕ) → n ≡ length old → EachMoves R old new → EachMoves R old (take n (new ++ drop (length new) old))
moved_back R old new n all moves = subst (λ (l : List Daemon). EachMoves R old l) (sym (written_back new old n moves.count all)) moves

-- an event of a domain that exists
pub numbered_from : (hub : Domains) (from : ℕ) (event : Event) → is_from from event ≡ true → is_domain hub from ≡ true → HasRoom event → IsNumbered hub event
numbered_from hub from (Trigger f t s i) own there room = ap (is_domain hub) (same_number f from own) ∙ there
numbered_from hub from (Terminated f o p) own there room = ap (is_domain hub) (same_number f from own) ∙ there
numbered_from hub from (Dropped d) own there room = absurd room
