-- An end's own steps, as steps of the core state that it and its peer make up with the words.
use Rattle.std.proofs.Common.{◌≡◌, ℕ, Bool, true, false, cond, None, List, [], length, sym, refl, ap, ◌∙◌, subst, ⊎_elim}
use Rattle.ring_words.specs.declared.page.Role.{Role}
use Rattle.ring_words.specs.declared.page.Role.TheVariants.{Server, Client}
use Rattle.vchan_protocol.specs.declared.op.Op.{Op}
use Rattle.vchan_protocol.specs.declared.call.Call.{Call}
use Rattle.vchan_protocol.specs.declared.side.Side.{Side}
use Rattle.vchan_protocol.specs.Table.Plan.{GoesOn}
use Rattle.vchan_protocol.specs.Table.Apply.{words_after, value_taken}
use Rattle.vchan_protocol.specs.History.Core.{Core, side_of, begun, begins, event, side_after, op_next, plan_left}
use Rattle.vchan_protocol.specs.Honest.Reached.{MayBegin}
use Rattle.vchan_protocol.specs.Hostile.Turned.{turns, strays, turned_side, strayed}
use Rattle.vchan_protocol.specs.Hostile.TurnedLaw.{turned_core, ListsStand}
use Rattle.vchan_protocol.specs.Always.Invariant.{Invariant}
use Rattle.vchan_protocol.specs.Hostile.TurnedLaws.{TurnStands}
use Rattle.vchan_protocol.specs.OneEnd.OneEnd.{Setup, between, setup_of, StepsAreOwn, Enters, StepsKeep}
use Rattle.vchan_protocol.proofs.Always.InvariantSteps.{invariant_begun, invariant_event, invariant_turned_core, invariant_strayed}
use Rattle.vchan_protocol.proofs.Hostile.TurnedSteps.{turned_side_honest, turned_side_given, turned_turned_side}
use Rattle.vchan_protocol.specs.History.Peer.{peer}

-- ---- an end and its peer

pub side_is : (setup : Setup) (words : List ℕ) (who : Role) (mine theirs : Side) → side_of (between setup words who mine theirs) who ≡ mine
side_is setup words Server mine theirs = refl
side_is setup words Client mine theirs = refl

pub peer_is : (setup : Setup) (words : List ℕ) (who : Role) (mine theirs : Side) → side_of (between setup words who mine theirs) (peer who) ≡ theirs
peer_is setup words Server mine theirs = refl
peer_is setup words Client mine theirs = refl

pub core_is : (core : Core) (who : Role) → between (setup_of core) core.words who (side_of core who) (side_of core (peer who)) ≡ core
core_is core Server = refl
core_is core Client = refl

pub role_is : (setup : Setup) (words : List ℕ) (who : Role) (mine theirs : Side) → Invariant (between setup words who mine theirs) → mine.role ≡ who
role_is setup words Server mine theirs k = k.turned.server_end.role_is
role_is setup words Client mine theirs k = k.turned.client_end.role_is

pub orders_are : (setup : Setup) (words : List ℕ) (who : Role) (mine theirs : Side) → Invariant (between setup words who mine theirs) → mine.orders ≡ setup.orders
orders_are setup words Server mine theirs k = k.turned.server_end.orders_are
orders_are setup words Client mine theirs k = k.turned.client_end.orders_are

-- ---- its steps

pub begun_is : (setup : Setup) (words : List ℕ) (who : Role) (mine theirs : Side) (call : Call) (payload : List ℕ) → begun (between setup words who mine theirs) who call payload ≡ between setup words who (begins mine call payload) theirs
begun_is setup words Server mine theirs call payload = refl
begun_is setup words Client mine theirs call payload = refl

pub event_is : (setup : Setup) (words : List ℕ) (who : Role) (mine theirs : Side) →
    event (between setup words who mine theirs) who ≡ between setup (words_after setup.orders words mine.payload (op_next mine)) who (side_after mine (value_taken setup.orders words (op_next mine))) theirs
unfolding event
event_is setup words Server mine theirs = refl
event_is setup words Client mine theirs = refl

pub turning_is : (setup : Setup) (words : List ℕ) (who : Role) (mine theirs : Side) → turned_core (between setup words who mine theirs) who ≡ between setup words who (turned_side mine (length theirs.got)) theirs
turning_is setup words Server mine theirs = refl
turning_is setup words Client mine theirs = refl

pub strayed_is : (setup : Setup) (words : List ℕ) (who : Role) (mine theirs : Side) (op : Op) →
    strayed (between setup words who mine theirs) who op ≡ between setup (words_after setup.orders words [] op) who (strays (turned_side mine (length theirs.got)) op (value_taken setup.orders words op)) theirs
strayed_is setup words Server mine theirs op = refl
strayed_is setup words Client mine theirs op = refl

pub steps_are_own : (setup : Setup) (words : List ℕ) (who : Role) (mine theirs : Side) → StepsAreOwn setup words who mine theirs
steps_are_own setup words who mine theirs = record {
  mine_is = side_is setup words who mine theirs;
  theirs_is = peer_is setup words who mine theirs;
  event = event_is setup words who mine theirs;
  begin = begun_is setup words who mine theirs;
  turn = turning_is setup words who mine theirs;
  stray = strayed_is setup words who mine theirs;
}

-- ---- what holds of a page, for one end

pub enters_kept : (setup : Setup) (words : List ℕ) (who : Role) (mine now theirs : Side) → mine.turned ≡ false → Enters mine now → Invariant (between setup words who mine theirs) → Invariant (between setup words who now theirs)
enters_kept setup words who mine now theirs honest e k = ⊎_elim
    (λ (same : now ≡ mine). subst (λ (z : Side). Invariant (between setup words who z theirs)) (sym same) k)
    (λ (t : (call : Call) × (payload : List ℕ) × (now ≡ begins mine call payload) × MayBegin mine.role mine call payload).
    let is = side_is setup words who mine theirs in
    let may : MayBegin who (side_of (between setup words who mine theirs) who) t.0 t.1 =
    subst (λ (z : Side). MayBegin who z t.0 t.1) (sym is) (subst (λ (r : Role). MayBegin r mine t.0 t.1) (role_is setup words who mine theirs k) t.3) in
    let honest' : (side_of (between setup words who mine theirs) who).turned ≡ false = ap (λ (z : Side). z.turned) is ∙ honest in
    subst (λ (z : Side). Invariant (between setup words who z theirs)) (sym t.2) (subst Invariant (begun_is setup words who mine theirs t.0 t.1) (invariant_begun (between setup words who mine theirs) who t.0 t.1 k honest' may)))
    e

pub event_kept : (setup : Setup) (words : List ℕ) (who : Role) (mine theirs : Side) → mine.turned ≡ false → GoesOn (plan_left mine) → Invariant (between setup words who mine theirs) →
    Invariant (between setup (words_after setup.orders words mine.payload (op_next mine)) who (side_after mine (value_taken setup.orders words (op_next mine))) theirs)
event_kept setup words who mine theirs honest more k =
    let is = side_is setup words who mine theirs in
    subst Invariant (event_is setup words who mine theirs)
    (invariant_event (between setup words who mine theirs) who k (ap (λ (z : Side). z.turned) is ∙ honest) (subst (λ (z : Side). GoesOn (plan_left z)) (sym is) more))

pub turn_kept : (setup : Setup) (words : List ℕ) (who : Role) (mine theirs : Side) → mine.turned ≡ false → Invariant (between setup words who mine theirs) → Invariant (between setup words who (turns mine (length theirs.got)) theirs)
turn_kept setup words who mine theirs honest k =
    subst (λ (z : Side). Invariant (between setup words who z theirs)) (turned_side_honest mine (length theirs.got) honest)
    (subst Invariant (turning_is setup words who mine theirs) (invariant_turned_core (between setup words who mine theirs) who k))

pub stray_kept : (setup : Setup) (words : List ℕ) (who : Role) (mine theirs : Side) (op : Op) → mine.turned ≡ true → Invariant (between setup words who mine theirs) →
    Invariant (between setup (words_after setup.orders words [] op) who (strays mine op (value_taken setup.orders words op)) theirs)
stray_kept setup words who mine theirs op given k =
    subst (λ (z : Side). Invariant (between setup (words_after setup.orders words [] op) who (strays z op (value_taken setup.orders words op)) theirs)) (turned_side_given mine (length theirs.got) given)
    (subst Invariant (strayed_is setup words who mine theirs op) (invariant_strayed (between setup words who mine theirs) who op k))

pub steps_keep : (setup : Setup) (words : List ℕ) (who : Role) (mine theirs : Side) → Invariant (between setup words who mine theirs) → StepsKeep setup words who mine theirs
steps_keep setup words who mine theirs k = record {
  role = role_is setup words who mine theirs k;
  enters = λ now honest e. enters_kept setup words who mine now theirs honest e k;
  event = λ honest more. event_kept setup words who mine theirs honest more k;
  turn = λ honest. turn_kept setup words who mine theirs honest k;
  stray = λ op given. stray_kept setup words who mine theirs op given k;
}

-- ---- turning

pub turned_side_sent : (s : Side) (consumed : ℕ) → (turned_side s consumed).sent ≡ s.sent
turned_side_sent s consumed = go s.turned
  where
    go : (b : Bool) → (cond b s (turns s consumed)).sent ≡ s.sent
    go true = refl
    go false = refl

pub turned_side_got : (s : Side) (consumed : ℕ) → (turned_side s consumed).got ≡ s.got
turned_side_got s consumed = go s.turned
  where
    go : (b : Bool) → (cond b s (turns s consumed)).got ≡ s.got
    go true = refl
    go false = refl

-- for one end, when the reader of its ring had got this many bytes
record Stands (s : Side) (consumed : ℕ) : Type 0 where
  turned : (turned_side s consumed).turned ≡ true
  sent : (turned_side s consumed).sent ≡ s.sent
  got : (turned_side s consumed).got ≡ s.got
  consumed_is : s.turned ≡ false → (turned_side s consumed).consumed ≡ consumed
  idle : s.turned ≡ false → (turned_side s consumed).call ≡ None
  again : s.turned ≡ true → turned_side s consumed ≡ s
  stray : (op : Op) (taken : ℕ) → ListsStand (turned_side s consumed) (strays (turned_side s consumed) op taken)

stands : (s : Side) (consumed : ℕ) → Stands s consumed
stands s consumed = record {
  turned = turned_turned_side s consumed;
  sent = turned_side_sent s consumed;
  got = turned_side_got s consumed;
  consumed_is = λ honest. ap (λ (z : Side). z.consumed) (turned_side_honest s consumed honest);
  idle = λ honest. ap (λ (z : Side). z.call) (turned_side_honest s consumed honest);
  again = λ given. turned_side_given s consumed given;
  stray = λ op taken. record { turned = refl; sent = refl; got = refl; consumed = refl };
}

pub turn_stands : (core : Core) (who : Role) → TurnStands core who
turn_stands core Server =
    let h = stands core.server (length core.client.got) in
    record { turned = h.turned; sent = h.sent; got = h.got; consumed = h.consumed_is; idle = h.idle; again = h.again; words = refl; peer = refl; stray = λ op. h.stray op (value_taken core.orders core.words op) }
turn_stands core Client =
    let h = stands core.client (length core.server.got) in
    record { turned = h.turned; sent = h.sent; got = h.got; consumed = h.consumed_is; idle = h.idle; again = h.again; words = refl; peer = refl; stray = λ op. h.stray op (value_taken core.orders core.words op) }
