-- An event of a hostile user of an end is the event of each core state that the page stands for.
use Rattle.std.proofs.Common.{◌≡◌, ℕ, Bool, true, false, cond, List, [], length, refl, subst, sym, ap, ◌∙◌}
use Rattle.ring_words.specs.declared.order.Orders.{Orders}
use Rattle.ring_words.specs.declared.page.Role.{Role}
use Rattle.ring_words.specs.declared.page.Role.TheVariants.{Server, Client}
use Rattle.vchan_protocol.specs.declared.op.Op.{Op}
use Rattle.vchan_protocol.specs.declared.side.Side.{Side}
use Rattle.vchan_core.specs.declared.ends.End.{End}
use Rattle.vchan_core.specs.declared.ends.Ends.{Ends}
use Rattle.vchan_core.specs.declared.machine.Machine.{Machine}
use Rattle.vchan_core.specs.declared.totals.Totals.{Totals}
use Rattle.vchan_core.specs.declared.plain.Plain.{Plain}
use Rattle.vchan_protocol.specs.Table.Apply.{words_after, value_taken}
use Rattle.vchan_core.specs.OneMachine.Phases.{standing, IsIdle}
use Rattle.vchan_core.specs.Page.Counts.{capped}
use Rattle.vchan_protocol.specs.History.Core.{Core, standing_of}
use Rattle.vchan_core.specs.Page.Ends.{other_end}
use Rattle.vchan_core.specs.Page.StandsFor.{IsEndOf, IsMachineOf, StandsFor, machine_of, moved_of, orders_of, turned_of, words_of}
use Rattle.vchan_protocol.specs.Hostile.Turned.{turns, turned_side, strays, strayed}
use Rattle.vchan_protocol.proofs.OneEnd.OneEndSteps.{turned_side_sent, turned_side_got}
use Rattle.vchan_protocol.proofs.Hostile.TurnedSteps.{turned_turned_side}

-- what the code of a hostile event does: it turns the end, and then stores to the words
pub record DoesStray (who : Role) (op : Op) (page given page' : Plain) : Type 0 where
  pub idle : IsIdle (machine_of given who)
  pub stands : standing (machine_of given who) ≡ standing (machine_of page who)
  pub moved : moved_of given who ≡ moved_of page who
  pub turned : turned_of given who ≡ true
  pub other : other_end given.ends who ≡ other_end page.ends who
  pub words : words_of page' ≡ words_after (orders_of page) (words_of page) [] op
  pub orders : orders_of page' ≡ orders_of page
  pub ends : page'.ends ≡ given.ends

standing_turned_side : (s : Side) (consumed : ℕ) → standing_of (turned_side s consumed) ≡ standing_of s
standing_turned_side s consumed = go s.turned
  where
    go : (b : Bool) → standing_of (cond b s (turns s consumed)) ≡ standing_of s
    go true = refl
    go false = refl

strays_machine : (s : Side) (consumed taken : ℕ) (op : Op) (m m' : Machine) → IsMachineOf s m → IsIdle m' → standing m' ≡ standing m → IsMachineOf (strays (turned_side s consumed) op taken) m'
strays_machine s consumed taken op m m' h idle same = record {
  standing_is = same ∙ h.standing_is ∙ sym (standing_turned_side s consumed);
  in_call = idle;
}

words_step : (core : Core) (page page' : Plain) (op : Op) → StandsFor core page → words_of page' ≡ words_after (orders_of page) (words_of page) [] op → words_of page' ≡ words_after core.orders core.words [] op
words_step core page page' op h is =
    is ∙ ap (λ (o : Orders). words_after o (words_of page) [] op) h.orders ∙ ap (λ (w : List ℕ). words_after core.orders w [] op) h.words

strays_end : (s : Side) (consumed taken : ℕ) (op : Op) (e e' : End) → IsEndOf s e → IsIdle e'.machine → standing e'.machine ≡ standing e.machine → e'.moved ≡ e.moved → e'.turned ≡ true → IsEndOf (strays (turned_side s consumed) op taken) e'
strays_end s consumed taken op e e' h idle same moved turned = record {
  machine = strays_machine s consumed taken op e.machine e'.machine h.machine idle same;
  sent = ap (λ (w : Totals). w.sent) moved ∙ h.sent ∙ ap (λ (xs : List ℕ). capped (length xs)) (sym (turned_side_sent s consumed));
  got = ap (λ (w : Totals). w.got) moved ∙ h.got ∙ ap (λ (xs : List ℕ). capped (length xs)) (sym (turned_side_got s consumed));
  turned = turned ∙ sym (turned_turned_side s consumed);
}

pub stands_strayed : (core : Core) (who : Role) (op : Op) (page given page' : Plain) → StandsFor core page → DoesStray who op page given page' → StandsFor (strayed core who op) page'
stands_strayed core Server op page given page' h d = record {
  orders = d.orders ∙ h.orders;
  words = words_step core page page' op h d.words;
  server = subst (λ (e : Ends). IsEndOf (strays (turned_side core.server (length core.client.got)) op (value_taken core.orders core.words op)) e.server) (sym d.ends)
      (strays_end core.server (length core.client.got) (value_taken core.orders core.words op) op page.ends.server given.ends.server h.server d.idle d.stands d.moved d.turned);
  client = subst (λ (e : End). IsEndOf core.client e) (sym (ap (λ (e : Ends). e.client) d.ends ∙ d.other)) h.client;
}
stands_strayed core Client op page given page' h d = record {
  orders = d.orders ∙ h.orders;
  words = words_step core page page' op h d.words;
  server = subst (λ (e : End). IsEndOf core.server e) (sym (ap (λ (e : Ends). e.server) d.ends ∙ d.other)) h.server;
  client = subst (λ (e : Ends). IsEndOf (strays (turned_side core.client (length core.server.got)) op (value_taken core.orders core.words op)) e.client) (sym d.ends)
      (strays_end core.client (length core.server.got) (value_taken core.orders core.words op) op page.ends.client given.ends.client h.client d.idle d.stands d.moved d.turned);
}
