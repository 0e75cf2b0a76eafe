use Rattle.std.proofs.Common.{◌≡◌, ℕ, ◌-◌, ◌<◌, max, List, [], ◌∷◌, map, length, get_or, refl, sym, ap, ◌∙◌, arith, rules, tests}
use Rattle.std.proofs.lemmas.Iterator.{YieldsList-from_slice, YieldsList-from_map}
use Rattle.std.proofs.lemmas.Iterator.Adapters.{option_map_id, serves_from_places}
use Rattle.std.proofs.lemmas.Iterator.Consumers.{max_from_yields_List}
use Rattle.std.proofs.lemmas.List.{get_or_default, get_or_read}
use Rattle.std.specs.List.{fold, reduce}
use Rattle.std.specs.Option.{unwrap_or}
use Rattle.model.specs.Times.{largest}
use Rattle.model.proofs.Members.{at_place}
use Rattle.plan.proofs.lengths.largest.Goals as goal

module _ (all : List ℕ) where
  abbrev at : ℕ → ℕ
  at e = get_or all e 0

  -- the greatest so far and the largest at some exits
  folded : (m : ℕ) (es : List ℕ) → fold max m (map at es) ≡ max m (largest all 0 es)
  folded m [] = omega arith
  folded m (e ∷ es) = let own : at (e - 0) ≡ at e = ap at (omega arith) in omega (arith, own, folded (max m (at e)) es)

  reduced : (es : List ℕ) → unwrap_or (reduce max (map at es)) 0 ≡ largest all 0 es
  reduced [] = refl
  reduced (e ∷ es) = let own : at (e - 0) ≡ at e = ap at (omega arith) in omega (arith, own, folded (at e) es)

pub max-requires-clause-can : goal.max-requires-clause-can
max-requires-clause-can c = (
  tt,
  serves_from_places (YieldsList-from_slice c.args.exits.now cc) (λ x q k. search (rules, tests))
      (λ x k low is.
      let es = c.args.exits.now in
      let inside : x.now < length c.args.remaining.now = omega (arith, c.requires (get_or es k 0) (at_place 0 es k low), is, get_or_default es k x.now 0 low) in
      (search rules, search rules)),
)

pub returns : goal.returns
returns c =
    let all = c.args.remaining.now in
    let es = c.args.exits.now in
    let best = sym (option_map_id c.max.result) ∙ max_from_yields_List _ _ c.max.ensures.ran (YieldsList-from_map _ (at all) (YieldsList-from_slice es cc) c.map.ensures.closure (λ x r q k. search (rules, tests, get_or_read))) in
    c.unwrap_or.ensures ∙ ap (λ o. unwrap_or o 0) best ∙ reduced all es
