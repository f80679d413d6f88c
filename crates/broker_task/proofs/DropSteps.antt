-- A domain that is dropped: its entry of the journal, what it leaves unsent, and the Connects that may be sent without it.
use Rattle.std.proofs.Common.{◌≡◌, ◌≢◌, ℕ, Bool, true, false, List, [], ◌∷◌, ◌++◌, refl, sym, ap, ◌∙◌, subst, arith, None, inl}
use Rattle.std.specs.Prelude.{◌==◌, ◌||◌, IsPermutation, filter_map}
use Rattle.std.proofs.lemmas.List.{append-nil}
use Rattle.std.proofs.lemmas.Bool.Decides.{nat_tests}
use Rattle.std.specs.List.{AllByRecursion as Each}
use Rattle.std.proofs.lemmas.Bool.{and_parts}
use Rattle.std.proofs.Math.Bool.{or-false, or-true}
use Rattle.list_laws.proofs.Each.{each_push, each_weaker}
use Rattle.list_laws.proofs.Tests.{same_number}
use Rattle.qrexec_frame.specs.declared.message.Message.{Message}
use Rattle.qrexec_frame.specs.declared.message.Message.TheVariants.{Hello, Exec, JustExec, Connect, Refused, Terminated, Trigger3, Trigger, Stdin, Stdout, Stderr, ExitCode}
use Rattle.call_broker.specs.declared.event.Event.TheVariants.{Dropped}
use Rattle.call_broker.specs.declared.decision.Entry.{Entry}
use Rattle.call_broker.specs.declared.decision.Decision.{Decision}
use Rattle.call_broker.specs.Domains.{Domains, is_domain}
use Rattle.call_broker.specs.Pair.{decision}
use Rattle.call_broker.specs.Journal.{events, is_dropped, IsNumbered}
use Rattle.call_broker.proofs.BrokerLaws.{decided_push}
use Rattle.control_port.specs.Port.{HasSaid}
use Rattle.task_duties.specs.Hearing.{to_broker, hears}
use Rattle.task_duties.specs.Broker.Outbox.{outbox, answered, event_of, read_from}
use Rattle.task_duties.specs.Broker.Owes.{broker_version}
use Rattle.broker_task.specs.declared.outbox.Letter.{Letter}
use Rattle.broker_task.specs.declared.daemon.Daemon.{Daemon}
use Rattle.broker_task.specs.Letters.{messages_in, connects}
use Rattle.broker_task.specs.Lines.{end_of, heard_by, is_gone, IsLine, HasRead, HasReadAll, IsSameDaemon}
use Rattle.broker_task.specs.Posting.{EachAt, EachMoves, LetsGo, MayGo, IsLetter, HasPosted, IsPosting, HasHeardOut, HaveRead}
use Rattle.broker_task.proofs.PostLaws.{each_moved, moves_then}
use Rattle.broker_task.proofs.PostingLaws.{may_go_on, outbox_more, answered_more, dropped_more, still_dropped, line_same}
use Rattle.broker_task.proofs.HearingSteps.{read_more, read_port}
use Rattle.broker_task.proofs.SendingSteps.{Alone, each_alone}
use Rattle.broker_task.proofs.ReleaseSteps.{posted_let_go, same_daemon, same_then, same_let_go}

-- a domain hangs up
pub record HangsUp (x y : Daemon) : Type 0 where
  pub gone : is_gone y ≡ true
  pub line : IsLine y.domain y
  pub said : (said : List Message) → HasSaid x.port said → HasSaid y.port said
  pub got : (end_of y).got ≡ (end_of x).got
  pub version : y.port.version ≡ x.port.version
  pub letters : y.outbox.letters.items ≡ []
  pub same : IsSameDaemon x y
  pub counted : y.answered ≡ x.answered

pub dropped_own : (journal : List Entry) (t : ℕ) (decided : Decision) → is_dropped (journal ++ record { event = Dropped t; decision = decided } ∷ []) t ≡ true
dropped_own journal t decided =
    let self : (t == t) ≡ true = grind (arith, nat_tests) in
    dropped_more t journal (record { event = Dropped t; decision = decided }) ∙ ap (λ b. is_dropped journal t || b) self ∙ or-true (is_dropped journal t)

pub dropped_other : (journal : List Entry) (t d : ℕ) (decided : Decision) → d ≢ t → is_dropped (journal ++ record { event = Dropped t; decision = decided } ∷ []) d ≡ is_dropped journal d
dropped_other journal t d decided apart =
    let other : (t == d) ≡ false = grind (arith, nat_tests, apart) in
    dropped_more d journal (record { event = Dropped t; decision = decided }) ∙ ap (λ b. is_dropped journal d || b) other ∙ or-false (is_dropped journal d)

drop_outbox : (hub : Domains) (journal : List Entry) (t d : ℕ) (decided : Decision) → outbox hub (journal ++ record { event = Dropped t; decision = decided } ∷ []) d ≡ outbox hub journal d
drop_outbox hub journal t d decided = outbox_more hub d journal (record { event = Dropped t; decision = decided }) ∙ append-nil (outbox hub journal d)

drop_answered : (journal : List Entry) (t d : ℕ) (decided : Decision) → answered (journal ++ record { event = Dropped t; decision = decided } ∷ []) d ≡ answered journal d
drop_answered journal t d decided = omega (arith, answered_more d journal (record { event = Dropped t; decision = decided }))

pub drop_read : (journal : List Entry) (t d : ℕ) (decided : Decision) → read_from (journal ++ record { event = Dropped t; decision = decided } ∷ []) d ≡ read_from journal d
drop_read journal t d decided = read_more journal (record { event = Dropped t; decision = decided }) d ∙ append-nil (read_from journal d)

-- what waited for the domain is given up
posted_drop : (hub : Domains) (journal : List Entry) (said : ℕ → List Message) (t : ℕ) (decided : Decision) (d : ℕ) (x y : Daemon) → d ≡ t → HangsUp x y
    → HasPosted hub journal said d x → HasPosted hub (journal ++ record { event = Dropped t; decision = decided } ∷ []) said d y
posted_drop hub journal said t decided d x y same up h =
    let e : Entry = record { event = Dropped t; decision = decided } in
    let on : (m : Message) → MayGo journal said d m → MayGo (journal ++ e ∷ []) said d m = may_go_on journal (journal ++ e ∷ []) said said (λ k dropped. still_dropped k journal e dropped) (λ k m there. there) d in
    record {
      says = up.said (said d) h.says;
      lost = messages_in x.outbox.letters.items ++ h.lost;
      kept =
          subst (λ (l : List Letter). IsPermutation (said d ++ (messages_in l ++ (messages_in x.outbox.letters.items ++ h.lost))) (outbox hub (journal ++ e ∷ []) d)) (sym up.letters)
          (subst (λ o. IsPermutation (said d ++ (messages_in x.outbox.letters.items ++ h.lost)) o) (sym (drop_outbox hub journal t d decided)) h.kept);
      none_lost = λ still. cc (up.gone, still);
      letters = subst (λ (l : List Letter). Each (IsLetter hub (journal ++ e ∷ []) said d) l) (sym up.letters) tt;
      went = each_weaker (MayGo journal said d) (MayGo (journal ++ e ∷ []) said d) on (said d) h.went;
      counted = up.counted ∙ h.counted ∙ sym (drop_answered journal t d decided);
      dropped = subst (λ k. is_dropped (journal ++ e ∷ []) k ≡ true) (sym same) (dropped_own journal t decided) ∙ sym up.gone;
    }

posted_apart : (hub : Domains) (journal : List Entry) (said : ℕ → List Message) (t : ℕ) (decided : Decision) (d : ℕ) (x : Daemon) → d ≢ t
    → HasPosted hub journal said d x → HasPosted hub (journal ++ record { event = Dropped t; decision = decided } ∷ []) said d x
posted_apart hub journal said t decided d x apart h =
    let e : Entry = record { event = Dropped t; decision = decided } in
    let on : (m : Message) → MayGo journal said d m → MayGo (journal ++ e ∷ []) said d m = may_go_on journal (journal ++ e ∷ []) said said (λ k dropped. still_dropped k journal e dropped) (λ k m there. there) d in
    record {
      says = h.says;
      lost = h.lost;
      kept = subst (λ o. IsPermutation (said d ++ (messages_in x.outbox.letters.items ++ h.lost)) o) (sym (drop_outbox hub journal t d decided)) h.kept;
      none_lost = h.none_lost;
      letters = each_weaker (IsLetter hub journal said d) (IsLetter hub (journal ++ e ∷ []) said d) (λ l is. record { fits = is.fits; may = λ free. on l.message (is.may free) }) x.outbox.letters.items h.letters;
      went = each_weaker (MayGo journal said d) (MayGo (journal ++ e ∷ []) said d) on (said d) h.went;
      counted = h.counted ∙ sym (drop_answered journal t d decided);
      dropped = dropped_other journal t d decided apart ∙ h.dropped;
    }

pub posting_drop : (hub : Domains) (journal : List Entry) (t : ℕ) (decided : Decision) (old new : List Daemon) → EachMoves (Alone t HangsUp) old new → decided ≡ decision hub (events journal) (Dropped t) → is_domain hub t ≡ true
    → IsPosting hub journal old → IsPosting hub (journal ++ record { event = Dropped t; decision = decided } ∷ []) new
posting_drop hub journal t decided old new moves is there h =
    let e : Entry = record { event = Dropped t; decision = decided } in record {
      count = moves.count ∙ h.count;
      decided = decided_push hub [] journal e h.decided is;
      numbered = each_push (λ (x : Entry). IsNumbered hub x.event) journal e h.numbered there;
      lines = each_alone t HangsUp IsLine IsLine old new moves (λ d x y same up line. subst (λ n. IsLine n y) (up.same.domain ∙ line.number) up.line) (λ d x apart line. line) h.lines;
      said = h.said;
      posted =
          each_alone t HangsUp (HasPosted hub journal h.said) (HasPosted hub (journal ++ e ∷ []) h.said) old new moves (λ d x y same up p. posted_drop hub journal h.said t decided d x y same up p)
          (λ d x apart p. posted_apart hub journal h.said t decided d x apart p) h.posted;
    }

-- all that the domain has sent was heard before
pub read_drop : (journal : List Entry) (t : ℕ) (decided : Decision) (old new : List Daemon) → EachMoves (Alone t HangsUp) old new → HasHeardOut t journal old → HaveRead (journal ++ record { event = Dropped t; decision = decided } ∷ []) new
read_drop journal t decided old new moves h =
    let more : List Entry = journal ++ record { event = Dropped t; decision = decided } ∷ [] in
    let both_ways : EachAt (λ d x. (d ≢ t → HasRead x (read_from journal d)) × (d ≡ t → HasReadAll x (read_from journal d))) old = λ i x at. (h.others i x at, h.own i x at) in
    each_alone t HangsUp (λ d x. (d ≢ t → HasRead x (read_from journal d)) × (d ≡ t → HasReadAll x (read_from journal d))) (λ d x. HasRead x (read_from more d)) old new moves
    (λ d x y same up p. record {
      all =
          ap (λ (k : ℕ). filter_map (event_of k) (heard_by (end_of y)).messages) up.same.domain ∙ ap (λ (g : List ℕ). filter_map (event_of x.domain) (hears broker_version to_broker g).messages) up.got ∙ (p.1 same).all
          ∙ sym (drop_read journal t d decided);
      version = ap (λ (g : List ℕ). (hears broker_version to_broker g).version) up.got ∙ (p.1 same).version ∙ sym up.version;
      on = λ still. cc (up.gone, still);
      going = λ still. cc (up.gone, still);
      fine = λ still. cc (up.gone, still);
    })
    (λ d x apart p. subst (λ es. HasRead x es) (sym (drop_read journal t d decided)) (p.0 apart)) both_ways

-- a Connect to a domain that was dropped may be sent
pub goes_without : (journal : List Entry) (said : ℕ → List Message) (t f : ℕ) → is_dropped journal t ≡ true → (m : Message) → connects t None m ≡ true → MayGo journal said f m
goes_without journal said t f dropped (Connect to q ident) h = let same : t ≡ to = sym (same_number to t (and_parts (to == t) true h).0) in inl (subst (λ k. is_dropped journal k ≡ true) same dropped)
goes_without journal said t f dropped (Hello v) h = tt
goes_without journal said t f dropped (Exec x p l) h = tt
goes_without journal said t f dropped (JustExec x p l) h = tt
goes_without journal said t f dropped (Refused i) h = tt
goes_without journal said t f dropped (Terminated x p) h = tt
goes_without journal said t f dropped (Trigger3 x i s) h = tt
goes_without journal said t f dropped (Trigger x i s) h = tt
goes_without journal said t f dropped (Stdin b) h = tt
goes_without journal said t f dropped (Stdout b) h = tt
goes_without journal said t f dropped (Stderr b) h = tt
goes_without journal said t f dropped (ExitCode c) h = tt

pub drop_released : (hub : Domains) (journal : List Entry) (t : ℕ) (old new : List Daemon) → EachMoves (λ d. LetsGo t None) old new → is_dropped journal t ≡ true → IsPosting hub journal old → IsPosting hub journal new
drop_released hub journal t old new moves dropped h = record {
  count = moves.count ∙ h.count;
  decided = h.decided;
  numbered = h.numbered;
  lines = each_moved IsLine IsLine (λ d. LetsGo t None) old new moves (λ d x y lets line. line_same d x y lets.port lets.domain line) h.lines;
  said = h.said;
  posted =
      each_moved (HasPosted hub journal h.said) (HasPosted hub journal h.said) (λ d. LetsGo t None) old new moves
      (λ d x y lets p. posted_let_go hub journal h.said d t None x y (goes_without journal h.said t d dropped) lets p) h.posted;
}

pub read_released : (journal : List Entry) (t : ℕ) (old new : List Daemon) → EachMoves (λ d. LetsGo t None) old new → HaveRead journal old → HaveRead journal new
read_released journal t old new moves h =
    each_moved (λ d x. HasRead x (read_from journal d)) (λ d x. HasRead x (read_from journal d)) (λ d. LetsGo t None) old new moves (λ d x y lets p. read_port x y (read_from journal d) lets.port lets.domain p) h

-- ---- all of it

same_drop : (t : ℕ) (old mid new : List Daemon) → EachMoves (Alone t HangsUp) old mid → EachMoves (λ d. LetsGo t None) mid new → EachMoves (λ d. IsSameDaemon) old new
same_drop t old mid new moves lets =
    moves_then (Alone t HangsUp) (λ d. LetsGo t None) (λ d. IsSameDaemon) old mid new moves lets (λ d x y z m l. same_then x y z (by_test d x y m (d == t) refl) (same_let_go t None y z l))
  where
    by_test : (d : ℕ) (x y : Daemon) → Alone t HangsUp d x y → (b : Bool) → (d == t) ≡ b → IsSameDaemon x y
    by_test d x y m true is = (m.0 (same_number d t is)).same
    by_test d x y m false is = let apart : d ≢ t = λ same. grind (arith, nat_tests, is, same) in subst (λ (z : Daemon). IsSameDaemon x z) (sym (m.1 apart)) (same_daemon x)

-- the domain hung up, and the Connects to it were let go
pub record IsWithout (hub : Domains) (journal : List Entry) (t : ℕ) (decided : Decision) (old new : List Daemon) : Type 0 where
  pub posting : IsPosting hub (journal ++ record { event = Dropped t; decision = decided } ∷ []) new
  pub read : HaveRead (journal ++ record { event = Dropped t; decision = decided } ∷ []) new
  pub same : EachMoves (λ d. IsSameDaemon) old new

pub without : (hub : Domains) (journal : List Entry) (t : ℕ) (decided : Decision) (old mid new : List Daemon) → EachMoves (Alone t HangsUp) old mid → EachMoves (λ d. LetsGo t None) mid new
    → decided ≡ decision hub (events journal) (Dropped t) → is_domain hub t ≡ true → IsPosting hub journal old → HasHeardOut t journal old → IsWithout hub journal t decided old new
without hub journal t decided old mid new moves lets is there posting heard =
    let more : List Entry = journal ++ record { event = Dropped t; decision = decided } ∷ [] in record {
      posting = drop_released hub more t mid new lets (dropped_own journal t decided) (posting_drop hub journal t decided old mid moves is there posting);
      read = read_released more t mid new lets (read_drop journal t decided old mid moves heard);
      same = same_drop t old mid new moves lets;
    }
