-- The outboxes beside a journal, through one entry more.
use Rattle.std.proofs.Common.{◌≡◌, ℕ, ◌+◌, Bool, true, false, List, [], ◌∷◌, ◌++◌, refl, sym, ap, ◌∙◌, subst, append_assoc, inl, inr}
use Rattle.std.specs.Prelude.{◌||◌, Contains, IsPermutation, IsSome, count_by, cond}
use Rattle.std.proofs.lemmas.List.Folds.{list_any-append}
use Rattle.std.proofs.lemmas.List.Sums.{sum_by-append, sum_by-cons}
use Rattle.std.proofs.lemmas.List.{append-nil}
use Rattle.std.proofs.lemmas.List.Sorted.{IsPermutation-refl, IsPermutation-trans, IsPermutation-append, IsPermutation-append_right, IsPermutation-append_comm}
use Rattle.std.specs.List.{AllByRecursion as Each}
use Rattle.list_laws.proofs.Each.{each_push, each_append, each_weaker, each_with}
use Rattle.qrexec_frame.specs.declared.message.Message.{Message}
use Rattle.qrexec_frame.specs.declared.message.Message.TheVariants.{Hello, Exec, JustExec, Connect, Refused, Terminated, Trigger3, Trigger, Stdin, Stdout, Stderr, ExitCode}
use Rattle.call_broker.specs.declared.event.Event.{Event}
use Rattle.call_broker.specs.declared.event.Event.TheVariants as event
use Rattle.call_broker.specs.declared.decision.Entry.{Entry}
use Rattle.call_broker.specs.declared.decision.Decision.{Decision}
use Rattle.call_broker.specs.Domains.{Domains}
use Rattle.call_broker.specs.Pair.{decision}
use Rattle.call_broker.specs.Journal.{events, drops, is_dropped, IsNumbered}
use Rattle.call_broker.proofs.BrokerLaws.{decided_push}
use Rattle.vchan_rule.specs.Seated.{view}
use Rattle.control_port.specs.Port.{PortState, HasSaid}
use Rattle.task_duties.specs.Broker.Outbox.{outbox, puts, answered, is_answer}
use Rattle.broker_task.specs.declared.outbox.Letter.{Letter}
use Rattle.broker_task.specs.declared.daemon.Daemon.{Daemon}
use Rattle.broker_task.specs.Letters.{messages_in}
use Rattle.broker_task.specs.Lines.{is_shut, is_gone, MayDrop, IsLine, HasRoom}
use Rattle.broker_task.specs.Replies.{IsFit}
use Rattle.broker_task.specs.Posting.{EachMoves, MayGo, IsLetter, HasPosted, IsPosting, IsFree, Posts, one_if}
use Rattle.broker_task.proofs.PostLaws.{each_moved}

-- ---- lists

pub messages_append : (xs ys : List Letter) → messages_in (xs ++ ys) ≡ messages_in xs ++ messages_in ys
messages_append [] ys = refl
messages_append (x ∷ xs) ys = ap (λ r. x.message ∷ r) (messages_append xs ys)

-- more is put after what waits, and what was given up stays after all
pub put_behind : (said waits lost all more : List Message) → IsPermutation (said ++ (waits ++ lost)) all → IsPermutation (said ++ ((waits ++ more) ++ lost)) (all ++ more)
put_behind said waits lost all more kept =
    let swapped : IsPermutation ((waits ++ more) ++ lost) ((waits ++ lost) ++ more) =
    subst (λ l. IsPermutation l ((waits ++ lost) ++ more)) (sym (append_assoc waits more lost))
    (subst (λ l. IsPermutation (waits ++ (more ++ lost)) l) (sym (append_assoc waits lost more)) (IsPermutation-append_right waits (more ++ lost) (lost ++ more) (IsPermutation-append_comm more lost))) in
    let moved : IsPermutation (said ++ ((waits ++ more) ++ lost)) ((said ++ (waits ++ lost)) ++ more) =
    subst (λ l. IsPermutation (said ++ ((waits ++ more) ++ lost)) l) (sym (append_assoc said (waits ++ lost) more)) (IsPermutation-append_right said _ _ swapped) in
    IsPermutation-trans _ _ _ moved (IsPermutation-append (said ++ (waits ++ lost)) all more more kept (IsPermutation-refl more))

-- ---- an entry more

pub outbox_more : (hub : Domains) (d : ℕ) (journal : List Entry) (e : Entry) → outbox hub (journal ++ e ∷ []) d ≡ outbox hub journal d ++ puts hub d e.event e.decision
outbox_more hub d [] e = append-nil (puts hub d e.event e.decision)
outbox_more hub d (x ∷ journal) e =
    ap (λ r. puts hub d x.event x.decision ++ r) (outbox_more hub d journal e) ∙ sym (append_assoc (puts hub d x.event x.decision) (outbox hub journal d) (puts hub d e.event e.decision))

count_more : {A : Type 0} (p : A → Bool) (xs : List A) (x : A) → count_by p (xs ++ x ∷ []) ≡ count_by p xs + one_if (p x)
count_more {A} p xs x = sum_by-append (λ (y : A). cond (p y) 1 0) xs (x ∷ []) ∙ ap (λ n. count_by p xs + n) (sum_by-cons (λ (y : A). cond (p y) 1 0) x [] ∙ one (p x))
  where
    one : (b : Bool) → cond b 1 0 + 0 ≡ one_if b
    one true = refl
    one false = refl

pub answered_more : (d : ℕ) (journal : List Entry) (e : Entry) → answered (journal ++ e ∷ []) d ≡ answered journal d + one_if (is_answer d e.event e.decision)
answered_more d journal e = count_more (λ (x : Entry). is_answer d x.event x.decision) journal e

pub dropped_more : (d : ℕ) (journal : List Entry) (e : Entry) → is_dropped (journal ++ e ∷ []) d ≡ (is_dropped journal d || drops d e.event)
dropped_more d journal e = list_any-append (λ (x : Entry). drops d x.event) journal (e ∷ []) ∙ ap (λ b. is_dropped journal d || b) (alone (drops d e.event))
  where
    alone : (b : Bool) → (b || false) ≡ b
    alone true = refl
    alone false = refl

pub still_dropped : (d : ℕ) (journal : List Entry) (e : Entry) → is_dropped journal d ≡ true → is_dropped (journal ++ e ∷ []) d ≡ true
still_dropped d journal e h = dropped_more d journal e ∙ ap (λ b. b || drops d e.event) h

none_dropped : (d : ℕ) (journal : List Entry) (e : Entry) → HasRoom e.event → is_dropped (journal ++ e ∷ []) d ≡ is_dropped journal d
none_dropped d journal e room = dropped_more d journal e ∙ ap (λ b. is_dropped journal d || b) (no_drop e.event room) ∙ or-false (is_dropped journal d)
  where
    no_drop : (x : Event) → HasRoom x → drops d x ≡ false
    no_drop (event.Trigger f t s i) r = refl
    no_drop (event.Terminated f o p) r = refl
    no_drop (event.Dropped o) r = absurd r

    or-false : (b : Bool) → (b || false) ≡ b
    or-false true = refl
    or-false false = refl

-- ---- what may go

pub may_go_on : (journal journal' : List Entry) (said said' : ℕ → List Message) → ((t : ℕ) → is_dropped journal t ≡ true → is_dropped journal' t ≡ true)
    → ((d : ℕ) (m : Message) → Contains (said d) m → Contains (said' d) m) → (f : ℕ) (m : Message) → MayGo journal said f m → MayGo journal' said' f m
may_go_on journal journal' said said' gone more f (Connect t port ident) (inl h) = inl (gone t h)
may_go_on journal journal' said said' gone more f (Connect t port ident) (inr h) = inr (h.0, more t (Exec f port h.0) h.1)
may_go_on journal journal' said said' gone more f (Hello v) h = tt
may_go_on journal journal' said said' gone more f (Exec x p l) h = tt
may_go_on journal journal' said said' gone more f (JustExec x p l) h = tt
may_go_on journal journal' said said' gone more f (Refused i) h = tt
may_go_on journal journal' said said' gone more f (Terminated x p) h = tt
may_go_on journal journal' said said' gone more f (Trigger3 t i s) h = tt
may_go_on journal journal' said said' gone more f (Trigger t i s) h = tt
may_go_on journal journal' said said' gone more f (Stdin b) h = tt
may_go_on journal journal' said said' gone more f (Stdout b) h = tt
may_go_on journal journal' said said' gone more f (Stderr b) h = tt
may_go_on journal journal' said said' gone more f (ExitCode c) h = tt

pub free_goes : (journal : List Entry) (said : ℕ → List Message) (f : ℕ) (m : Message) → IsFree m → MayGo journal said f m
free_goes journal said f (Connect t port ident) h = absurd h
free_goes journal said f (Hello v) h = tt
free_goes journal said f (Exec x p l) h = tt
free_goes journal said f (JustExec x p l) h = tt
free_goes journal said f (Refused i) h = tt
free_goes journal said f (Terminated x p) h = tt
free_goes journal said f (Trigger3 t i s) h = tt
free_goes journal said f (Trigger t i s) h = tt
free_goes journal said f (Stdin b) h = tt
free_goes journal said f (Stdout b) h = tt
free_goes journal said f (Stderr b) h = tt
free_goes journal said f (ExitCode c) h = tt

-- ---- the outboxes, through one entry more

posted_more : (hub : Domains) (journal : List Entry) (said : ℕ → List Message) (e : Entry) → HasRoom e.event → (d : ℕ) (x y : Daemon) → Posts hub e d x y → HasPosted hub journal said d x
    → HasPosted hub (journal ++ e ∷ []) said d y
posted_more hub journal said e room d x y p h =
    let gone : is_gone y ≡ is_gone x = ap (λ (q : PortState). is_shut (view q.end).state) p.port in
    let on : (m : Message) → MayGo journal said d m → MayGo (journal ++ e ∷ []) said d m = may_go_on journal (journal ++ e ∷ []) said said (λ t dropped. still_dropped t journal e dropped) (λ t m there. there) d in
    record {
      says = subst (λ (q : PortState). HasSaid q (said d)) (sym p.port) h.says;
      lost = h.lost;
      kept =
          let waits : messages_in y.outbox.letters.items ≡ messages_in x.outbox.letters.items ++ puts hub d e.event e.decision =
          ap messages_in p.letters ∙ messages_append x.outbox.letters.items p.more ∙ ap (λ r. messages_in x.outbox.letters.items ++ r) p.are in
          subst (λ w. IsPermutation (said d ++ (w ++ h.lost)) (outbox hub (journal ++ e ∷ []) d)) (sym waits)
          (subst (λ o. IsPermutation (said d ++ ((messages_in x.outbox.letters.items ++ puts hub d e.event e.decision) ++ h.lost)) o) (sym (outbox_more hub d journal e))
          (put_behind (said d) (messages_in x.outbox.letters.items) h.lost (outbox hub journal d) (puts hub d e.event e.decision) h.kept));
      none_lost = λ up. h.none_lost (sym gone ∙ up);
      letters =
          subst (λ l. Each (IsLetter hub (journal ++ e ∷ []) said d) l) (sym p.letters)
          (each_append (IsLetter hub (journal ++ e ∷ []) said d) x.outbox.letters.items p.more
          (each_weaker (IsLetter hub journal said d) (IsLetter hub (journal ++ e ∷ []) said d) (λ l is. record { fits = is.fits; may = λ free. on l.message (is.may free) }) x.outbox.letters.items h.letters)
          (each_with (λ (l : Letter). IsFit hub l.message) (λ (l : Letter). l.held ≡ false → IsFree l.message) (IsLetter hub (journal ++ e ∷ []) said d) p.more
          (λ l fits free. record { fits = fits; may = λ up. free_goes (journal ++ e ∷ []) said d l.message (free up) }) p.replies p.free));
      went = each_weaker (MayGo journal said d) (MayGo (journal ++ e ∷ []) said d) on (said d) h.went;
      counted = p.counted ∙ ap (λ n. n + one_if (is_answer d e.event e.decision)) h.counted ∙ sym (answered_more d journal e);
      dropped = none_dropped d journal e room ∙ h.dropped ∙ sym gone;
    }

pub line_same : (d : ℕ) (x y : Daemon) → y.port ≡ x.port → y.domain ≡ x.domain → IsLine d x → IsLine d y
line_same d x y port domain h = record {
  number = domain ∙ h.number;
  talker = ap (λ (q : PortState). q.talker) port ∙ h.talker;
  own = ap (λ (q : PortState). q.own) port ∙ h.own;
  idle = ap (λ (q : PortState). (view q.end).idle) port ∙ h.idle;
  client = ap (λ (q : PortState). (view q.end).role) port ∙ h.client;
  honest = ap (λ (q : PortState). (view q.end).turned) port ∙ h.honest;
  retired = λ gone. ap (λ (q : PortState). (view q.end).retired) port ∙ h.retired (sym (ap (λ (q : PortState). is_shut (view q.end).state) port) ∙ gone);
  cause = λ gone. subst (λ (q : PortState). MayDrop (record { view = view q.end; gone = q.end.side.notes.gone })) (sym port) (h.cause (sym (ap (λ (q : PortState). is_shut (view q.end).state) port) ∙ gone));
  greets = λ greeted. subst (λ (q : PortState). IsSome q.version) (sym port) (h.greets (sym (ap (λ (q : PortState). q.greeted) port) ∙ greeted));
}

pub posting_more : (hub : Domains) (journal : List Entry) (old new : List Daemon) (event : Event) (decided : Decision) → IsPosting hub journal old → EachMoves (Posts hub (record { event = event; decision = decided })) old new
    → decided ≡ decision hub (events journal) event → IsNumbered hub event → HasRoom event → IsPosting hub (journal ++ record { event = event; decision = decided } ∷ []) new
posting_more hub journal old new event decided h moves is numbered room =
    let e : Entry = record { event = event; decision = decided } in record {
      count = moves.count ∙ h.count;
      decided = decided_push hub [] journal e h.decided is;
      numbered = each_push (λ (x : Entry). IsNumbered hub x.event) journal e h.numbered numbered;
      lines = each_moved IsLine IsLine (Posts hub e) old new moves (λ d x y p line. line_same d x y p.port p.domain line) h.lines;
      said = h.said;
      posted = each_moved (HasPosted hub journal h.said) (HasPosted hub (journal ++ e ∷ []) h.said) (Posts hub e) old new moves (posted_more hub journal h.said e room) h.posted;
    }
