use Rattle.std.proofs.Common.{◌≡◌, ◌++◌, [], ◌∷◌, ◌<◌, length, true, false, sym, refl, ap, subst, arith, length-drop, rules}
use Rattle.std.proofs.lemmas.Bool.Decides.{nat_tests}
use Rattle.netlink_packet_core_grammar.specs.Attributes.{nla_align, proper_kind}
use Rattle.netlink_packet_core_grammar.specs.AttributeViews.{BeginsWithAttribute, viewed_length, viewed_attribute, viewed_kind, viewed_payload, after_first}
use Rattle.netlink_packet_core.specs.Errors.{is_memory}
use Rattle.attribute_tables_grammar.specs.Lists.{no_kind_in_force, canonical_form}
use Rattle.attribute_tables_grammar.specs.Tables.{info_next}
use Rattle.link_info_grammar.specs.LinkInfo.{info_rule, link_info_row}
use Rattle.link_info.specs.LinkInfo.{context_of, link_info_entry, link_info_fits}
use Rattle.link_info.proofs.InfoReading.{State, Done, state_start, state_more, state_refused, state_stopped, state_done}
use Rattle.link_info.proofs.infos.LinkInfo.read_list.Goals as goal

pub loop-force-init : goal.loop-force-init
loop-force-init g c = record {
  state = subst (λ vs. State g.R.PeerRule.peer c.args.bytes.now vs no_kind_in_force c.args.bytes.now) (sym c.new-list.ensures.items) (state_start g.R.PeerRule.peer c.readings_unfold.ensures c.args.bytes.now);
  within = omega arith;
}

pub returns-in_err-buf-clause-judged : goal.returns-in_err-buf-clause-judged
returns-in_err-buf-clause-judged g c =
    let b = c.loop-force.rest.now in
    let n : 0 < length b = grind (arith, nat_tests) in
    let k = state_stopped g.R.PeerRule.peer c.readings_unfold.ensures c.readings_determine_rules.ensures _ _ _ b (λ h. let e : false ≡ true = c.in_err-buf.ensures.whole.1 h in absurd cc) n c.loop-force.invariant.state in
    search rules

pub returns-in_err-read-clause-judged : goal.returns-in_err-read-clause-judged
returns-in_err-read-clause-judged g c =
    let b = c.loop-force.rest.now in
    let f = context_of c.loop-force.force.kind c.loop-force.force.port_kind in
    let h : BeginsWithAttribute b = c.in_ok-buf.ensures.whole.0 refl in
    let k : is_memory c.in_err-read.field-0.0 ≡ false → (info_rule g.R.PeerRule.peer).accepted c.args.bytes.now ≡ false =
    λ m.
    let was : (link_info_row g.R.PeerRule.peer f (proper_kind (viewed_kind b))).rule.accepted (viewed_payload b) ≡ false = rw c.in_ok-buf.ensures.ok at c.in_err-read.ensures.judged m in
    state_refused g.R.PeerRule.peer c.readings_unfold.ensures c.readings_determine_rules.ensures _ _ f b h was c.loop-force.invariant.state in
    search rules

pub returns-in_err-force-clause-judged : goal.returns-in_err-force-clause-judged
returns-in_err-force-clause-judged g c =
    let b = c.loop-force.rest.now in
    let f = context_of c.loop-force.force.kind c.loop-force.force.port_kind in
    let h : BeginsWithAttribute b = c.in_ok-buf.ensures.whole.0 refl in
    let was : (link_info_row g.R.PeerRule.peer f (proper_kind (viewed_kind b))).rule.accepted (viewed_payload b) ≡ false = rw c.in_ok-buf.ensures.ok at c.in_err-force.ensures.err g.R.PeerRule.peer in
    let k = state_refused g.R.PeerRule.peer c.readings_unfold.ensures c.readings_determine_rules.ensures _ _ f b h was c.loop-force.invariant.state in
    search rules

pub loop-force-preserved : goal.loop-force-preserved
loop-force-preserved g c =
    let b = c.loop-force.rest.now in
    let f = context_of c.loop-force.force.kind c.loop-force.force.port_kind in
    let v = c.in_ok-read.field-0 in
    let h : BeginsWithAttribute b = c.in_ok-buf.ensures.whole.0 refl in
    let was : (link_info_row g.R.PeerRule.peer f (proper_kind (viewed_kind b))).rule.accepted (viewed_payload b) ≡ true = rw c.in_ok-buf.ensures.ok at c.in_ok-read.ensures.judged in
    let entry : link_info_entry v ≡ canonical_form (link_info_row g.R.PeerRule.peer f (proper_kind (viewed_kind b))) (viewed_attribute b) = rw c.in_ok-buf.ensures.ok at c.in_ok-read.ensures.value in
    let inside : link_info_fits v ≡ (link_info_row g.R.PeerRule.peer f (proper_kind (viewed_kind b))).rule.fits (viewed_payload b) = rw c.in_ok-buf.ensures.ok at c.in_ok-read.ensures.inside in
    let next : context_of c.in_ok-force.force.kind c.in_ok-force.force.port_kind ≡ info_next f (proper_kind (viewed_kind b)) (viewed_payload b) = rw c.in_ok-buf.ensures.ok at c.in_ok-force.ensures.next in
    let rest : length c.skip_first-rest.result.now ≡ length (after_first b) = ap length c.skip_first-rest.ensures in
    let s = state_more g.R.PeerRule.peer c.readings_unfold.ensures c.contexts_unfold.ensures (c.info_grammar_is_lawful.ensures g.R.PeerRule.peer c.rule_is_lawful.ensures) c.args.bytes.now c.loop-force.list.items f b v h was entry inside c.in_ok-read.ensures.is_row_variant c.loop-force.invariant.state in
    record {
      state = subst (λ vs. State g.R.PeerRule.peer c.args.bytes.now vs (context_of c.in_ok-force.force.kind c.in_ok-force.force.port_kind) c.skip_first-rest.result.now) (sym c.in_ok-push.ensures.items)
          (subst (λ d. State g.R.PeerRule.peer c.args.bytes.now (c.loop-force.list.items ++ v ∷ []) d c.skip_first-rest.result.now) (sym next)
          (subst (λ r. State g.R.PeerRule.peer c.args.bytes.now (c.loop-force.list.items ++ v ∷ []) (info_next f (proper_kind (viewed_kind b)) (viewed_payload b)) r) (sym c.skip_first-rest.ensures) s));
      within = omega (arith, rest, length-drop (nla_align (viewed_length b)) b, c.loop-force.invariant.within);
    }

ended : (g : _) (c : goal.After-loop-force g) → Done g.R.PeerRule.peer c.args.bytes.now c.loop-force.list.items
ended g c = state_done g.R.PeerRule.peer c.readings_unfold.ensures c.readings_determine_rules.ensures _ _ _ c.loop-force.rest.now (grind (arith, nat_tests)) c.loop-force.invariant.state

pub returns-clause-judged : goal.returns-clause-judged
returns-clause-judged g c = (ended g c).accepted

pub returns-clause-read : goal.returns-clause-read
returns-clause-read g c = (ended g c).read

pub returns-clause-written : goal.returns-clause-written
returns-clause-written g c =
    let done = ended g c in
    (done.canonical, done.fits)
