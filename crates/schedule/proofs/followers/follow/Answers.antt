use Rattle.std.proofs.Common.{◌≡◌, ◌+◌, [], ◌∷◌, ◌++◌, get_or, take, set, vec_items, sym, ap, ◌∙◌, subst, arith}
use Rattle.std.proofs.lemmas.List.{get_or_default, map-set}
use Rattle.model.proofs.Members.{at_place}
use Rattle.schedule_laws.proofs.Following.{followed_more}
use Rattle.schedule_laws.specs.Following.{Followed}
use Rattle.schedule.specs.Vecs.{lists}
use Rattle.schedule.proofs.Reading.{length-lists, read_list}
use Rattle.schedule.proofs.followers.follow.Goals as goal

pub index_mut-requires : goal.index_mut-requires
index_mut-requires c =
    let ps = c.args.predecessors.now in
    let i = c.loop-predecessor.predecessor-index in
    omega (arith, c.requires (get_or ps i 0) (at_place 0 ps i c.loop-predecessor-test.true), c.loop-predecessor.invariant.long, length-lists c.args.followers.now, length-lists c.loop-predecessor.followers)

pub loop-predecessor-preserved : goal.loop-predecessor-preserved
loop-predecessor-preserved c =
    let ps = c.args.predecessors.now in
    let i = c.loop-predecessor.predecessor-index in
    let p = get_or ps i 0 in
    let n = c.args.number in
    let v = c.loop-predecessor.followers in
    let old = c.index_mut.result.now in
    let low = c.requires p (at_place 0 ps i c.loop-predecessor-test.true) in
    let long = length-lists c.args.followers.now in
    let read = read_list v p old (omega (arith, low, c.loop-predecessor.invariant.long, long, length-lists v)) c.index_mut.ensures.value in
    let pushed : vec_items c.push.new.self ≡ get_or (lists v) p [] ++ (n ∷ []) = c.in_ok-push.ensures.items ∙ ap (λ l. l ++ (n ∷ [])) (sym read) in
    subst (λ l. Followed n (take (i + 1) ps) (lists c.args.followers.now) l)
    (sym (map-set vec_items (vec_items v) p c.push.new.self ∙ ap (set (lists v) p) pushed))
    (followed_more n ps (lists c.args.followers.now) (lists v) i p c.loop-predecessor-test.true (get_or_default ps i 0 p c.loop-predecessor-test.true) (omega (arith, low, long)) c.loop-predecessor.invariant)
