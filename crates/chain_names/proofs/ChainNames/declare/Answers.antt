use Rattle.std.proofs.Common.{◌≡◌, ◌∙◌, ◌∷◌, ◌++◌, [], ap, cond, map, None, position, rules}
use Rattle.std.specs.Str.{bytes_eq}
use Rattle.chain_names.proofs.Names.{none-any, map-appended}
use Rattle.chain_names.proofs.ChainNames.declare.Goals as goal

pub returns-clause-names : goal.returns-clause-names
returns-clause-names c =
    let name = c.args.name.now in
    let keys = c.self.inside.names.keys in
    let none : position (bytes_eq name) c.args.self.now ≡ None = search (rules, c.if-is_some.ensures) in
    let here : position (bytes_eq name) (map (λ k. k.items) keys) ≡ None = rw c.self.view_is none in
    let absent : position (bytes_eq c.in_ok-copy.copy.items) (map (λ k. k.items) keys) ≡ None = rw c.in_ok-copy.ensures.items here in
    ap (map (λ k. k.items)) (c.in_ok-insert.ensures.keys ∙ ap (λ b. cond b keys (keys ++ c.in_ok-copy.copy ∷ [])) (none-any (bytes_eq c.in_ok-copy.copy.items) keys absent))
    ∙ map-appended keys c.in_ok-copy.copy ∙ ap (λ ns. ns ++ c.in_ok-copy.copy.items ∷ []) c.self.view_is
    ∙ ap (λ n. c.args.self.now ++ n ∷ []) c.in_ok-copy.ensures.items
