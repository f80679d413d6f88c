use Rattle.std.proofs.Common.{◌≡◌, ◌∙◌, ◌+◌, ap, sym, subst, length, List, ◌++◌, arith, take, drop}
use Rattle.std.specs.Prelude.{OnOk}
use Rattle.std.proofs.lemmas.List.{length_push}
use Rattle.std.proofs.lemmas.List.Sums.{count_by-le-length}
use Rattle.call_broker.specs.declared.decision.Entry.{Entry}
use Rattle.call_broker.specs.Brokered.{Brokered}
use Rattle.call_broker.specs.Journal.{events, IsNumbered}
use Rattle.task_duties.specs.Broker.Outbox.{is_answer}
use Rattle.broker_task.specs.declared.daemon.Daemon.{Daemon}
use Rattle.broker_task.specs.Replies.{IsReplyTo, IsWithin, AreFit, HasShortNames}
use Rattle.broker_task.specs.Letters.{IsAt}
use Rattle.broker_task.specs.Lines.{HasRoom}
use Rattle.broker_task.specs.Posting.{EachMoves, Posts, SamePort, IsPosting}
use Rattle.broker_task.proofs.PostLaws.{on_ok, moves_as, moves_none, same_port}
use Rattle.broker_task.proofs.ReplyLaws.{within_reply, journal_end, moved_back, numbered_from}
use Rattle.broker_task.proofs.PostingLaws.{posting_more}
use Rattle.broker_task.specs.Moving.{StandsBy}
use Rattle.broker_task.proofs.MovingLaws.{by_posts}
use Rattle.broker_task.proofs.HoldingLaws.{holds_posts}
use Rattle.broker_task.proofs.switchboard.Switchboard.decide.Goals.{After-as_mut_slice, After-post}
use Rattle.broker_task.proofs.switchboard.Switchboard.decide.Goals as goal

-- the entry of the event
abbrev entry : After-as_mut_slice → Entry
entry c = record { event = c.args.event; decision = c.in_ok-decision.decision }

-- the reply is one to the last entry of the journal, which is that of the event
reply : (c : After-as_mut_slice) → IsReplyTo c.args.self.now.broker.hub c.args.event c.in_ok-decision.decision c.in_ok-reply.reply
reply c =
    let kept = c.in_ok-decision.ensures.kept in
    let last = journal_end c.args.self.now.broker c.event.new.self c.journal-journal.result.now (entry c) c.index-journal-journal.result c.journal-journal.ensures.entries kept c.index-journal-journal.is in
    subst (λ (b : Brokered). IsReplyTo b.hub c.args.event c.in_ok-decision.decision c.in_ok-reply.reply) kept
    (subst (λ (x : Entry). IsReplyTo c.event.new.self.hub x.event c.in_ok-decision.decision c.in_ok-reply.reply) last c.in_ok-reply.ensures.reply)

pub event-requires : goal.event-requires
event-requires c = numbered_from c.args.self.now.broker.hub c.args.from c.args.event c.requires.own c.requires.sender c.requires.room

pub reply_to-requires-clause-numbered : goal.reply_to-requires-clause-numbered
reply_to-requires-clause-numbered c =
    let e : Entry = record { event = c.args.event; decision = c.in_ok-decision.decision } in
    let kept = c.in_ok-decision.ensures.kept in
    let last = journal_end c.args.self.now.broker c.event.new.self c.journal-journal.result.now e c.index-journal-journal.result c.journal-journal.ensures.entries kept c.index-journal-journal.is in
    subst (λ (z : Brokered × Entry). IsNumbered z.0.hub z.1.event) (λ i. (sym kept i, sym last i)) (numbered_from c.args.self.now.broker.hub c.args.from c.args.event c.requires.own c.requires.sender c.requires.room)

pub reply_to-requires-clause-room : goal.reply_to-requires-clause-room
reply_to-requires-clause-room c =
    let e : Entry = record { event = c.args.event; decision = c.in_ok-decision.decision } in
    let last = journal_end c.args.self.now.broker c.event.new.self c.journal-journal.result.now e c.index-journal-journal.result c.journal-journal.ensures.entries c.in_ok-decision.ensures.kept c.index-journal-journal.is in
    subst (λ (x : Entry). HasRoom x.event) (sym last) c.requires.room

pub reply_to-requires-clause-names : goal.reply_to-requires-clause-names
reply_to-requires-clause-names c = subst (λ (b : Brokered). HasShortNames b.hub) (sym c.in_ok-decision.ensures.kept) c.requires.names

pub post-requires-clause-few : goal.post-requires-clause-few
post-requires-clause-few c = λ i x at.
    let old = c.args.self.now.broker.journal in
    let there : IsAt c.args.self.now.daemons.items i x = subst (λ (l : List Daemon). IsAt l i x) c.as_mut_slice.ensures.value at in
    let counted = (c.requires.posting.posted i x there).counted in
    let few = count_by-le-length (λ (e : Entry). is_answer (i + 1) e.event e.decision) old in
    let longer : length c.journal-journal.result.now ≡ length old + 1 = ap (λ (l : List Entry). length l) (c.journal-journal.ensures.entries ∙ ap (λ (b : Brokered). b.journal) c.in_ok-decision.ensures.kept) ∙ length_push old _ in
    omega (arith, counted, few, longer)

pub post-requires-clause-target : goal.post-requires-clause-target
post-requires-clause-target c =
    let old = c.args.self.now.broker in
    subst (λ n. IsWithin n c.in_ok-reply.reply) (sym c.requires.posting.count ∙ ap (λ (l : List Daemon). length l) (sym c.as_mut_slice.ensures.value))
    (within_reply old.hub (events old.journal) c.args.event c.in_ok-decision.decision c.in_ok-reply.reply c.in_ok-decision.ensures.decided (reply (goal.at.post-requires-clause-target c).After-as_mut_slice))

abbrev after : After-post → List Daemon
after c = take c.args.self.now.daemons.len (c.post.new.daemons ++ drop (length c.post.new.daemons) c.args.self.now.daemons.items)

-- the letters of the entry were put into the outboxes
moved : (c : After-post) → IsReplyTo c.args.self.now.broker.hub c.args.event c.in_ok-decision.decision c.in_ok-reply.reply
    → OnOk c.post.result (EachMoves (Posts c.args.self.now.broker.hub (record { event = c.args.event; decision = c.in_ok-decision.decision })) c.args.self.now.daemons.items (after c))
moved c reply =
    let hub = c.args.self.now.broker.hub in
    let ds = c.args.self.now.daemons in
    let e : Entry = record { event = c.args.event; decision = c.in_ok-decision.decision } in
    let kept = c.in_ok-decision.ensures.kept in
    on_ok c.post.result
    (c.post.ensures.posts hub c.args.event c.in_ok-decision.decision c.requires.own reply (subst (λ (b : Brokered). AreFit b.hub c.in_ok-reply.reply) kept c.in_ok-reply.ensures.fits))
    (λ moves. moved_back (Posts hub e) ds.items c.post.new.daemons ds.len (omega (arith, ds.ok.0)) (subst (λ (l : List Daemon). EachMoves (Posts hub e) l c.post.new.daemons) c.as_mut_slice.ensures.value moves))

pub returns-clause-posting : goal.returns-clause-posting
returns-clause-posting c =
    let old = c.args.self.now.broker in
    let w = goal.at.returns-clause-posting c in
    let numbered = numbered_from old.hub c.args.from c.args.event c.requires.own c.requires.sender c.requires.room in
    on_ok c.post.result (moved w.After-post (reply w.After-as_mut_slice))
    (λ moves. subst (λ (b : Brokered). IsPosting b.hub b.journal (after w.After-post)) (sym c.in_ok-decision.ensures.kept)
    (posting_more old.hub old.journal _ (after w.After-post) c.args.event c.in_ok-decision.decision c.requires.posting moves c.in_ok-decision.ensures.decided numbered c.requires.room))

pub returns-clause-by : goal.returns-clause-by
returns-clause-by c =
    let w = goal.at.returns-clause-by c in
    on_ok c.post.result (moved w.After-post (reply w.After-as_mut_slice)) (λ moves. moves_as _ (λ d. StandsBy) _ (after w.After-post) moves (λ d x y p. by_posts c.args.self.now.broker.hub _ d x y p))

pub returns-clause-holds : goal.returns-clause-holds
returns-clause-holds c =
    let w = goal.at.returns-clause-holds c in
    on_ok c.post.result (moved w.After-post (reply w.After-as_mut_slice))
    (λ moves. holds_posts c.args.self.now.broker.hub c.args.self.now.broker.journal _ (after w.After-post) c.args.event c.in_ok-decision.decision moves c.requires.posting c.in_ok-decision.ensures.decided c.requires.holds)

pub returns-clause-hub : goal.returns-clause-hub
returns-clause-hub c = ap (λ (b : Brokered). b.hub) c.in_ok-decision.ensures.kept

pub returns-clause-ports : goal.returns-clause-ports
returns-clause-ports c =
    let ds = c.args.self.now.daemons in
    moved_back SamePort ds.items c.post.new.daemons ds.len (omega (arith, ds.ok.0)) (subst (λ (l : List Daemon). EachMoves SamePort l c.post.new.daemons) c.as_mut_slice.ensures.value c.post.ensures.ports)

pub returns-in_err-reply-clause-ports : goal.returns-in_err-reply-clause-ports
returns-in_err-reply-clause-ports c = moves_none SamePort c.args.self.now.daemons.items (λ d x. same_port d x)

pub returns-in_err-decision-clause-ports : goal.returns-in_err-decision-clause-ports
returns-in_err-decision-clause-ports c = moves_none SamePort c.args.self.now.daemons.items (λ d x. same_port d x)

pub returns-in_err-reply-clause-hub : goal.returns-in_err-reply-clause-hub
returns-in_err-reply-clause-hub c = ap (λ (b : Brokered). b.hub) c.in_ok-decision.ensures.kept
