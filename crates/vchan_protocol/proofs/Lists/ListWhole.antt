-- From a lawful core state whole calls are calls on lists.
use Rattle.std.proofs.Common.{◌≡◌, ℕ, Bool, List, [], ◌∷◌, ◌++◌, length, take, drop, refl, subst, sym, ap, ◌∙◌}
use Rattle.std.proofs.lemmas.List.{drop_at}
use Rattle.list_laws.specs.Lists.{IsPrefixOf}
use Rattle.list_laws.proofs.Prefixes.{prefix_length}
use Rattle.ring_words.specs.declared.page.Role.{Role}
use Rattle.ring_words.specs.declared.page.Role.TheVariants.{Server, Client}
use Rattle.vchan_protocol.specs.declared.call.Answer.{Answer}
use Rattle.vchan_protocol.specs.declared.call.Call.{Call}
use Rattle.vchan_protocol.specs.declared.call.EndState.{EndState}
use Rattle.vchan_protocol.specs.declared.side.Side.{Side}
use Rattle.vchan_protocol.specs.Table.Ends.{Standing}
use Rattle.vchan_protocol.specs.History.Page.{live_word}
use Rattle.vchan_protocol.specs.Table.Calls.{plan_of}
use Rattle.vchan_protocol.specs.History.Core.{Core, side_of, standing_of, begins, begun, bytes_loaded}
use Rattle.vchan_protocol.specs.History.WholeCall.{alone, whole_call, called, call_answer}
use Rattle.vchan_protocol.specs.Honest.Reached.{MayBegin}
use Rattle.vchan_protocol.specs.Honest.Lawful.{Lawful}
use Rattle.vchan_protocol.specs.Honest.LifeLaw.{TellsGone}
use Rattle.vchan_protocol.specs.Lists.ListCall.{ListEnd, ChannelLists, EndCall, end_of, with_end, waiting, list_end, lists_of, list_call, list_calls}
use Rattle.vchan_protocol.specs.Lists.ListLaw.{AllFollowLists, IsTold, FollowsLists, MayCall, MayCallAll, AreTold, called_all, count_got}
use Rattle.vchan_protocol.proofs.Lists.ListTells.{Told, told, Tells, EndIs, EndTells}
use Rattle.vchan_protocol.proofs.Lists.ListPieces.{run, core_by, alone_run, standing_by, Begins}
use Rattle.vchan_protocol.proofs.Lists.ListPieces.{Gives}
use Rattle.vchan_protocol.proofs.Lists.ListCalls.{each_row}
use Rattle.vchan_protocol.specs.History.Peer.{peer}

-- ---- what a lawful core state tells

-- the page tells the lists of the core state, to each of its ends
abbrev pub TellsLists : Core → Type 0
TellsLists core = (who : Role) → Tells who (lists_of core) (end_of (lists_of core) who) core.words (told (side_of core who)) (told (side_of core (peer who)))

end_told : (live gone : ℕ) (state : EndState) (retired : Bool) (sent got : List ℕ) → live ≡ live_word state → TellsGone gone retired state → EndTells live gone (record { state = state; retired = retired; sent = sent; got = got })
end_told live gone state retired sent got l g = record { live_is = l; gone_is = g.word; retired_shut = g.shut }

pub tells_lists : (core : Core) → Lawful core → TellsLists core
tells_lists core l Server = record {
  sized = l.sized;
  mine_is = record { role_is = l.server_end.role_is; orders_are = l.server_end.orders_are; state_is = refl; sent_is = refl; got_is = refl; retired_is = refl };
  theirs_is = record { role_is = l.client_end.role_is; orders_are = l.client_end.orders_are; state_is = refl; sent_is = refl; got_is = refl; retired_is = refl };
  written = record { prod_is = l.right.lawful.prod; cons_is = l.right.lawful.cons; own_prod_is = l.right.lawful.own_prod; own_cons_is = l.right.lawful.own_cons; prefix = l.right.lawful.prefix; fits = l.right.lawful.fits; bytes_sent = l.right.lawful.bytes_sent; waits = l.right.lawful.waiting };
  reading = record { prod_is = l.left.lawful.prod; cons_is = l.left.lawful.cons; own_prod_is = l.left.lawful.own_prod; own_cons_is = l.left.lawful.own_cons; prefix = l.left.lawful.prefix; fits = l.left.lawful.fits; bytes_sent = l.left.lawful.bytes_sent; waits = l.left.lawful.waiting };
  mine_words = end_told _ _ _ _ _ _ l.lives.server_words.live l.lives.server_words.gone;
  theirs_words = end_told _ _ _ _ _ _ l.lives.client_words.live l.lives.client_words.gone;
  left_order = l.lives.left_order;
  right_order = l.lives.right_order;
  said_fits = l.said_fits;
}
tells_lists core l Client = record {
  sized = l.sized;
  mine_is = record { role_is = l.client_end.role_is; orders_are = l.client_end.orders_are; state_is = refl; sent_is = refl; got_is = refl; retired_is = refl };
  theirs_is = record { role_is = l.server_end.role_is; orders_are = l.server_end.orders_are; state_is = refl; sent_is = refl; got_is = refl; retired_is = refl };
  written = record { prod_is = l.left.lawful.prod; cons_is = l.left.lawful.cons; own_prod_is = l.left.lawful.own_prod; own_cons_is = l.left.lawful.own_cons; prefix = l.left.lawful.prefix; fits = l.left.lawful.fits; bytes_sent = l.left.lawful.bytes_sent; waits = l.left.lawful.waiting };
  reading = record { prod_is = l.right.lawful.prod; cons_is = l.right.lawful.cons; own_prod_is = l.right.lawful.own_prod; own_cons_is = l.right.lawful.own_cons; prefix = l.right.lawful.prefix; fits = l.right.lawful.fits; bytes_sent = l.right.lawful.bytes_sent; waits = l.right.lawful.waiting };
  mine_words = end_told _ _ _ _ _ _ l.lives.client_words.live l.lives.client_words.gone;
  theirs_words = end_told _ _ _ _ _ _ l.lives.server_words.live l.lives.server_words.gone;
  left_order = l.lives.left_order;
  right_order = l.lives.right_order;
  said_fits = l.said_fits;
}

-- ---- where a call begins

split_at : (got sent : List ℕ) → IsPrefixOf got sent → got ++ drop (length got) sent ≡ sent
split_at got sent p = ap (λ (xs : List ℕ). got ++ drop (length got) xs) (sym p.1) ∙ ap (λ (xs : List ℕ). got ++ xs) (drop_at got p.0 (length got) refl) ∙ p.1

begins_there : (who : Role) (channel : ChannelLists) (words : List ℕ) (mine theirs : Told) → Tells who channel (end_of channel who) words mine theirs → Begins who channel
begins_there who channel words mine theirs t = record {
  written_low = prefix_length _ _ t.written.prefix;
  written_fits = t.written.fits;
  read_low = prefix_length _ _ t.reading.prefix;
  read_fits = t.reading.fits;
  read_split = split_at _ _ t.reading.prefix;
}

standing_there : (who : Role) (channel : ChannelLists) (words : List ℕ) (s : Side) (theirs : Told) → Tells who channel (end_of channel who) words (told s) theirs → standing_of s ≡ standing_by who channel
standing_there who channel words s theirs t = λ i. record {
  role = t.mine_is.role_is i;
  orders = t.mine_is.orders_are i;
  state = t.mine_is.state_is i;
  prod = t.written.own_prod_is i;
  cons = t.reading.own_cons_is i;
}

begun_by : (core : Core) (who : Role) (call : Call) (payload : List ℕ) → begun core who call payload ≡ core_by who (lists_of core) core.words (begins (side_of core who) call payload) (side_of core (peer who))
begun_by core Server call payload = refl
begun_by core Client call payload = refl

-- ---- where a call ends

list_end_is : (role : Role) (channel : ChannelLists) (it : ListEnd) (s : Side) → EndIs role channel.orders it (told s) → list_end s ≡ it
list_end_is role channel it s is = λ i. record {
  state = is.state_is i;
  retired = is.retired_is i;
  sent = is.sent_is i;
  got = is.got_is i;
}

-- the lists of a core state are those that its page tells
lists_there : (who : Role) (channel : ChannelLists) (it : ListEnd) (words : List ℕ) (mine theirs : Side) → Tells who channel it words (told mine) (told theirs) → lists_of (core_by who channel words mine theirs) ≡ with_end channel who it
lists_there Server channel it words mine theirs t =
    let own = list_end_is Server channel it mine t.mine_is in
    let other = list_end_is Client channel channel.client theirs t.theirs_is in
    λ i. record { start = channel.start; said = channel.said; orders = channel.orders; server = own i; client = other i }
lists_there Client channel it words mine theirs t =
    let own = list_end_is Client channel it mine t.mine_is in
    let other = list_end_is Server channel channel.server theirs t.theirs_is in
    λ i. record { start = channel.start; said = channel.said; orders = channel.orders; server = other i; client = own i }

side_by : (who : Role) (channel : ChannelLists) (words : List ℕ) (mine theirs : Side) → side_of (core_by who channel words mine theirs) who ≡ mine
side_by Server channel words mine theirs = refl
side_by Client channel words mine theirs = refl

-- the page tells the new lists, to both ends
tells_both : (who : Role) (channel : ChannelLists) (it : ListEnd) (words : List ℕ) (mine theirs : Side) → Tells who channel it words (told mine) (told theirs) → (to : Role) →
    Tells to (with_end channel who it) (end_of (with_end channel who it) to) words (told (side_of (core_by who channel words mine theirs) to)) (told (side_of (core_by who channel words mine theirs) (peer to)))
tells_both Server channel it words mine theirs t Server = record {
  sized = t.sized;
  mine_is = t.mine_is;
  theirs_is = t.theirs_is;
  written = t.written;
  reading = t.reading;
  mine_words = t.mine_words;
  theirs_words = t.theirs_words;
  left_order = t.left_order;
  right_order = t.right_order;
  said_fits = t.said_fits;
}
tells_both Server channel it words mine theirs t Client = record {
  sized = t.sized;
  mine_is = t.theirs_is;
  theirs_is = t.mine_is;
  written = t.reading;
  reading = t.written;
  mine_words = t.theirs_words;
  theirs_words = t.mine_words;
  left_order = t.left_order;
  right_order = t.right_order;
  said_fits = t.said_fits;
}
tells_both Client channel it words mine theirs t Client = record {
  sized = t.sized;
  mine_is = t.mine_is;
  theirs_is = t.theirs_is;
  written = t.written;
  reading = t.reading;
  mine_words = t.mine_words;
  theirs_words = t.theirs_words;
  left_order = t.left_order;
  right_order = t.right_order;
  said_fits = t.said_fits;
}
tells_both Client channel it words mine theirs t Server = record {
  sized = t.sized;
  mine_is = t.theirs_is;
  theirs_is = t.mine_is;
  written = t.reading;
  reading = t.written;
  mine_words = t.theirs_words;
  theirs_words = t.mine_words;
  left_order = t.left_order;
  right_order = t.right_order;
  said_fits = t.said_fits;
}

words_by : (who : Role) (channel : ChannelLists) (words : List ℕ) (mine theirs : Side) → (core_by who channel words mine theirs).words ≡ words
words_by Server channel words mine theirs = refl
words_by Client channel words mine theirs = refl

tells_there : (who : Role) (channel : ChannelLists) (it : ListEnd) (words : List ℕ) (mine theirs : Side) → Tells who channel it words (told mine) (told theirs) → TellsLists (core_by who channel words mine theirs)
tells_there who channel it words mine theirs t to =
    let core = core_by who channel words mine theirs in
    subst (λ (ws : List ℕ). Tells to (lists_of core) (end_of (lists_of core) to) ws (told (side_of core to)) (told (side_of core (peer to)))) (sym (words_by who channel words mine theirs))
    (subst (λ (c : ChannelLists). Tells to c (end_of c to) words (told (side_of core to)) (told (side_of core (peer to)))) (sym (lists_there who channel it words mine theirs t)) (tells_both who channel it words mine theirs t to))

-- ---- a whole call

module _ (core : Core) (who : Role) (call : Call) (payload : List ℕ) (t : TellsLists core) (may : MayCall (lists_of core) who call payload) where
  last : List ℕ × Side × Answer
  last = run core.orders core.words (begins (side_of core who) call payload) (plan_of (standing_by who (lists_of core)) call)

  whole : whole_call core who call payload ≡ (core_by who (lists_of core) last.0 last.1 (side_of core (peer who)), last.2)
  unfolding last
  whole =
      ap (λ (e : Standing). alone (begun core who call payload) who (plan_of e call)) (standing_there who (lists_of core) core.words (side_of core who) (told (side_of core (peer who))) (t who))
      ∙ ap (λ (k : Core). alone k who (plan_of (standing_by who (lists_of core)) call)) (begun_by core who call payload)
      ∙ alone_run who (lists_of core) core.words (begins (side_of core who) call payload) (side_of core (peer who)) (plan_of (standing_by who (lists_of core)) call)

  b : Begins who (lists_of core)
  b = begins_there who (lists_of core) core.words (told (side_of core who)) (told (side_of core (peer who))) (t who)

  gives : Gives who (lists_of core) (told (side_of core (peer who))) payload b (list_call (lists_of core) who call payload) last
  unfolding last b
  gives =
      each_row who (lists_of core) (told (side_of core (peer who))) payload (begins_there who (lists_of core) core.words (told (side_of core who)) (told (side_of core (peer who))) (t who)) call may.0 may.1 may.2 (t who).said_fits (t who).theirs_words.retired_shut
      core.words (begins (side_of core who) call payload) (record { tells = t who; pays = refl; stored = refl; loaded = refl })

  now_is : called core who call payload ≡ core_by who (lists_of core) last.0 last.1 (side_of core (peer who))
  now_is = ap (λ (r : Core × Answer). r.0) whole

  answer_is : call_answer core who call payload ≡ last.2
  answer_is = ap (λ (r : Core × Answer). r.1) whole

  pub follows_lists : FollowsLists core who call payload
  follows_lists = record {
    lists = ap lists_of now_is ∙ lists_there who (lists_of core) gives.it last.0 last.1 (side_of core (peer who)) gives.tells ∙ sym gives.is;
    answer = subst (λ (answer : Answer). IsTold (list_call (lists_of core) who call payload).1 answer) (sym answer_is) gives.answer;
    bytes = ap (λ (k : Core). bytes_loaded (side_of k who).trail) now_is ∙ ap (λ (s : Side). bytes_loaded s.trail) (side_by who (lists_of core) last.0 last.1 (side_of core (peer who))) ∙ gives.bytes
        ∙ ap (λ (answer : Answer). take (count_got answer) (waiting (lists_of core) who)) (sym answer_is);
  }

  -- the page tells the new lists
  pub tells_on : TellsLists (called core who call payload)
  tells_on = subst TellsLists (sym now_is) (tells_there who (lists_of core) gives.it last.0 last.1 (side_of core (peer who)) gives.tells)

-- ---- calls in a row

-- a call that an end of a core state may begin is one that it may begin by the lists
pub may_there : (core : Core) (who : Role) (call : Call) (payload : List ℕ) → MayBegin who (side_of core who) call payload → MayCall (lists_of core) who call payload
may_there core Server call payload may = (may.allowed, may.pays, may.bytes)
may_there core Client call payload may = (may.allowed, may.pays, may.bytes)

pub all_follow_lists : (core : Core) (calls : List EndCall) → TellsLists core → MayCallAll (lists_of core) calls → AllFollowLists core calls
all_follow_lists core [] t may = record { lists = refl; answers = tt }
all_follow_lists core (one ∷ more) t may =
    let first = follows_lists core one.who one.call one.payload t may.0 in
    let there : MayCallAll (lists_of (called core one.who one.call one.payload)) more = subst (λ (c : ChannelLists). MayCallAll c more) (sym first.lists) may.1 in
    let others = all_follow_lists (called core one.who one.call one.payload) more (tells_on core one.who one.call one.payload t may.0) there in
    record {
      lists = others.lists ∙ ap (λ (c : ChannelLists). (list_calls c more).0) first.lists;
      answers = (first.answer, subst (λ (c : ChannelLists). AreTold (list_calls c more).1 (called_all (called core one.who one.call one.payload) more).1) first.lists others.answers);
    }
