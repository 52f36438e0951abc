-- What is kept of the lines after one chain more, and after one rule more.
use Rattle.std.proofs.Common.{ℕ, suc, ◌≡◌, inl, inr, ◌⊎◌, Bool, true, false, not, cond, ◌||◌, None, Some, Option, List, [], ◌∷◌, ◌++◌, get_or, set, map, refl, sym, ap, subst, ◌∙◌, arith, is_some, append_assoc}
use Rattle.std.specs.Prelude.{filter, position, ◌&&◌, if◌then◌else◌}
use Rattle.std.specs.List.{AllByRecursion, position_or_len}
use Rattle.std.specs.Str.{bytes_eq}
use Rattle.std.proofs.lemmas.Bool.Decides.{nat_tests}
use Rattle.primitives.specs.declared.prim.Prim_.{Prim_}
use Rattle.fw_rule.specs.declared.rule.Rule.{Rule}
use Rattle.fw_rule.specs.declared.rule.Chain.{Chain}
use Rattle.dump_grammar.specs.Lines.{Text}
use Rattle.dump_grammar.specs.declared.chains.Declared.{Declared}
use Rattle.dump_grammar.specs.ChainLines.{is_among}
use Rattle.dump_grammar.specs.Groups.{all_differ}
use Rattle.dump_grammar.specs.Tables.{Placed, names_of}
use Rattle.dump_grammar.specs.Reads.{rule_of, is_in, is_declared, is_defined}
use Rattle.dump_read.specs.declared.state.State.{State}
use Rattle.dump_read.specs.inner.States.{has_any, with_rule, now_undefined, IsWritable, IsFirstUndeclared, Keeps}
use Rattle.basics.proofs.Lists.{no_cons}
use Rattle.basics.proofs.Truths.{clash}
use Rattle.dump_read.proofs.NameLemmas.{and_left, and_right, or_left, or_right, not_true, same_bytes, bytes_flip, differ_push}
use Rattle.dump_read.proofs.TableLemmas.{names_push}

-- a search, step by step
first_at : (f : Text → Bool) (x : Text) (xs : List Text) (k : ℕ) → position f (x ∷ xs) ≡ Some k →
    ((f x ≡ true) × (k ≡ 0)) ⊎ ((f x ≡ false) × ((j : ℕ) × ((k ≡ suc j) × (position f xs ≡ Some j))))
first_at f x xs k h = by (f x) refl
  where
    by : (b : Bool) → f x ≡ b → ((f x ≡ true) × (k ≡ 0)) ⊎ ((f x ≡ false) × ((j : ℕ) × ((k ≡ suc j) × (position f xs ≡ Some j))))
    by true e = inl (e, grind (arith, nat_tests, e, h))
    by false e = inr (e, (position_or_len f xs, (grind (arith, nat_tests, e, h), grind (arith, nat_tests, e, h))))

some_at : (f : Text → Bool) (x : Text) (xs : List Text) → is_some (position f (x ∷ xs)) ≡ (f x || is_some (position f xs))
some_at f x xs = by (f x) refl
  where
    by : (b : Bool) → f x ≡ b → is_some (position f (x ∷ xs)) ≡ (f x || is_some (position f xs))
    by true e = grind (arith, nat_tests, e)
    by false e = grind (arith, nat_tests, e)

-- a name is among others where a search finds it
pub among_of : (ns : List Text) (n : Text) → is_among ns n ≡ is_some (position (bytes_eq n) ns)
among_of [] n = refl
among_of (x ∷ ns) n =
    ap (λ z. z || is_among ns n) (bytes_flip x n) ∙ ap (λ z. bytes_eq n x || z) (among_of ns n) ∙ sym (some_at (bytes_eq n) x ns)

map_push : (A B : Type 0) (f : A → B) (xs : List A) (x : A) → map f (xs ++ x ∷ []) ≡ map f xs ++ f x ∷ []
map_push A B f [] x = refl
map_push A B f (y ∷ xs) x = ap (λ z. f y ∷ z) (map_push A B f xs x)

not_not : (b c : Bool) → b ≡ not c → c ≡ not b
not_not true true e = cc
not_not true false e = refl
not_not false true e = refl
not_not false false e = cc

-- a name is declared where it can't be declared anew
pub declared_of : (names : List Text) (cs : List Declared) (name slice : Text) (b : Bool) → names ≡ names_of cs → slice ≡ name →
    b ≡ not (is_some (position (bytes_eq slice) names)) → is_among (names_of cs) name ≡ not b
declared_of names cs name slice b e f h =
    let here : b ≡ not (is_some (position (bytes_eq name) (names_of cs))) = h ∙ (λ i. not (is_some (position (bytes_eq (f i)) (e i)))) in
    among_of (names_of cs) name ∙ not_not b (is_some (position (bytes_eq name) (names_of cs))) here

module _ {W : ℕ} where
  -- a declared chain with those of the rules that stand in it
  abbrev chain_of : List (Placed W) → Declared → Chain (Prim_ W)
  chain_of rules c = record { name = c.name; policy = c.policy; rules = map rule_of (filter (is_in c.name) rules) }

  filter_push : (f : Placed W → Bool) (rs : List (Placed W)) (p : Placed W) → f p ≡ true → filter f (rs ++ p ∷ []) ≡ filter f rs ++ p ∷ []
  filter_push f [] p h = ap (λ b. cond b (p ∷ []) []) h
  filter_push f (r ∷ rs) p h = by (f r) refl (filter_push f rs p h)
    where
      by : (b : Bool) → f r ≡ b → filter f (rs ++ p ∷ []) ≡ filter f rs ++ p ∷ [] →
          cond (f r) (r ∷ filter f (rs ++ p ∷ [])) (filter f (rs ++ p ∷ [])) ≡ cond (f r) (r ∷ filter f rs) (filter f rs) ++ p ∷ []
      by true e more = rw e (ap (λ z. r ∷ z) more)
      by false e more = rw e more

  filter_same : (f : Placed W → Bool) (rs : List (Placed W)) (p : Placed W) → f p ≡ false → filter f (rs ++ p ∷ []) ≡ filter f rs
  filter_same f [] p h = ap (λ b. cond b (p ∷ []) []) h
  filter_same f (r ∷ rs) p h = by (f r) refl (filter_same f rs p h)
    where
      by : (b : Bool) → f r ≡ b → filter f (rs ++ p ∷ []) ≡ filter f rs →
          cond (f r) (r ∷ filter f (rs ++ p ∷ [])) (filter f (rs ++ p ∷ [])) ≡ cond (f r) (r ∷ filter f rs) (filter f rs)
      by true e more = rw e (ap (λ z. r ∷ z) more)
      by false e more = rw e more

  chain_more : (rs : List (Placed W)) (p : Placed W) (c : Declared) → is_in c.name p ≡ true → chain_of (rs ++ p ∷ []) c ≡ with_rule (chain_of rs c) (rule_of p)
  chain_more rs p c h =
      let e : map rule_of (filter (is_in c.name) (rs ++ p ∷ [])) ≡ map rule_of (filter (is_in c.name) rs) ++ rule_of p ∷ [] =
      ap (map rule_of) (filter_push (is_in c.name) rs p h) ∙ map_push (Placed W) (Rule (Prim_ W)) rule_of (filter (is_in c.name) rs) p in
      λ i. record { name = c.name; policy = c.policy; rules = e i }

  chain_same : (rs : List (Placed W)) (p : Placed W) (c : Declared) → is_in c.name p ≡ false → chain_of (rs ++ p ∷ []) c ≡ chain_of rs c
  chain_same rs p c h =
      let e : map rule_of (filter (is_in c.name) (rs ++ p ∷ [])) ≡ map rule_of (filter (is_in c.name) rs) = ap (map rule_of) (filter_same (is_in c.name) rs p h) in
      λ i. record { name = c.name; policy = c.policy; rules = e i }

  -- a rule of a chain that isn't declared stands in none
  chains_same : (rs : List (Placed W)) (p : Placed W) (cs : List Declared) → is_among (names_of cs) p.rule.chain ≡ false → map (chain_of (rs ++ p ∷ [])) cs ≡ map (chain_of rs) cs
  chains_same rs p [] h = refl
  chains_same rs p (c ∷ cs) h =
      let first = chain_same rs p c (bytes_flip p.rule.chain c.name ∙ or_left (bytes_eq c.name p.rule.chain) (is_among (names_of cs) p.rule.chain) h) in
      let more = chains_same rs p cs (or_right (bytes_eq c.name p.rule.chain) (is_among (names_of cs) p.rule.chain) h) in
      λ i. first i ∷ more i

  -- a rule goes behind the rules of the first chain of its name
  chains_more : (rs : List (Placed W)) (p : Placed W) (cs : List Declared) (k : ℕ) (d : Chain (Prim_ W)) → all_differ (names_of cs) ≡ true → position (bytes_eq p.rule.chain) (names_of cs) ≡ Some k →
      map (chain_of (rs ++ p ∷ [])) cs ≡ set (map (chain_of rs) cs) k (with_rule (get_or (map (chain_of rs) cs) k d) (rule_of p))
  chains_more rs p [] k d u h = absurd (let e : None ≡ Some k = h in cc)
  chains_more rs p (c ∷ cs) k d u h = by (first_at (bytes_eq p.rule.chain) c.name (names_of cs) k h) (λ j e. chains_more rs p cs j d (and_right (not (is_among (names_of cs) c.name)) (all_differ (names_of cs)) u) e)
    where
      by : ((bytes_eq p.rule.chain c.name ≡ true) × (k ≡ 0)) ⊎ ((bytes_eq p.rule.chain c.name ≡ false) × ((j : ℕ) × ((k ≡ suc j) × (position (bytes_eq p.rule.chain) (names_of cs) ≡ Some j)))) →
          ((j : ℕ) → position (bytes_eq p.rule.chain) (names_of cs) ≡ Some j → map (chain_of (rs ++ p ∷ [])) cs ≡ set (map (chain_of rs) cs) j (with_rule (get_or (map (chain_of rs) cs) j d) (rule_of p))) →
          map (chain_of (rs ++ p ∷ [])) (c ∷ cs) ≡ set (map (chain_of rs) (c ∷ cs)) k (with_rule (get_or (map (chain_of rs) (c ∷ cs)) k d) (rule_of p))
      by (inl (e, z)) rec =
          let name : p.rule.chain ≡ c.name = same_bytes p.rule.chain c.name e in
          let none : is_among (names_of cs) p.rule.chain ≡ false = ap (is_among (names_of cs)) name ∙ not_true (is_among (names_of cs) c.name) (and_left (not (is_among (names_of cs) c.name)) (all_differ (names_of cs)) u) in
          let first = chain_more rs p c e in
          let more = chains_same rs p cs none in
          subst (λ (j : ℕ). map (chain_of (rs ++ p ∷ [])) (c ∷ cs) ≡ set (map (chain_of rs) (c ∷ cs)) j (with_rule (get_or (map (chain_of rs) (c ∷ cs)) j d) (rule_of p))) (sym z)
          (λ i. first i ∷ more i)
      by (inr (e, (j, (s, there)))) rec =
          let first = chain_same rs p c e in
          let more = rec j there in
          subst (λ (m : ℕ). map (chain_of (rs ++ p ∷ [])) (c ∷ cs) ≡ set (map (chain_of rs) (c ∷ cs)) m (with_rule (get_or (map (chain_of rs) (c ∷ cs)) m d) (rule_of p))) (sym s)
          (λ i. first i ∷ more i)

  pub none_ruled : (b : Bool) (rs : List (Placed W)) → b ≡ has_any rs → b ≡ false → rs ≡ []
  none_ruled b [] e f = refl
  none_ruled b (r ∷ rs) e f = absurd (clash b e f)

  none_undeclared : (cs ds : List Declared) (rs : List (Placed W)) (u : Option ℕ) → rs ≡ [] → IsFirstUndeclared cs rs u → IsFirstUndeclared ds rs u
  none_undeclared cs ds [] None e h = tt
  none_undeclared cs ds [] (Some n) e (before, p, after, h) = absurd (no_cons before p after (sym h.0))
  none_undeclared cs ds (r ∷ rs) u e h = cc

  -- one chain more
  pub chain_added : (old new : State W) (cs : List Declared) (rs : List (Placed W)) (c : Declared) → Keeps old cs rs → old.has_rules ≡ false →
      is_among (names_of cs) c.name ≡ false → new.names ≡ old.names ++ c.name ∷ [] → new.chains.items ≡ old.chains.items ++ record { name = c.name; policy = c.policy; rules = [] } ∷ [] →
      new.has_rules ≡ old.has_rules → new.undefined ≡ old.undefined → Keeps new (cs ++ c ∷ []) []
  chain_added old new cs rs c k none fresh names chains ruled undefined =
      let nil : rs ≡ [] = none_ruled old.has_rules rs k.ruled none in
      record {
        names = names ∙ ap (λ z. z ++ c.name ∷ []) k.names ∙ sym (names_push cs c);
        differ = ap all_differ (names_push cs c) ∙ differ_push (names_of cs) c.name k.differ fresh;
        dumped = chains ∙ ap (λ (z : List (Chain (Prim_ W))). z ++ record { name = c.name; policy = c.policy; rules = [] } ∷ []) (k.dumped ∙ ap (λ (z : List (Placed W)). map (chain_of z) cs) nil)
            ∙ sym (map_push Declared (Chain (Prim_ W)) (chain_of []) cs c);
        ruled = ruled ∙ none;
        undefined = subst (IsFirstUndeclared (cs ++ c ∷ []) []) (sym undefined)
            (subst (λ (z : List (Placed W)). IsFirstUndeclared (cs ++ c ∷ []) z old.undefined) nil (none_undeclared cs (cs ++ c ∷ []) rs old.undefined nil k.undefined));
        writable = tt;
      }

  any_push : (rs : List (Placed W)) (p : Placed W) → has_any (rs ++ p ∷ []) ≡ true
  any_push [] p = refl
  any_push (r ∷ rs) p = refl

  all_push : (P : Placed W → Type 0) (rs : List (Placed W)) (p : Placed W) → AllByRecursion P rs → P p → AllByRecursion P (rs ++ p ∷ [])
  all_push P [] p h q = (q, tt)
  all_push P (r ∷ rs) p h q = (h.0, all_push P rs p h.1 q)

  -- the first rule that isn't declared, with one rule more
  undefined_more : (cs : List Declared) (rs : List (Placed W)) (p : Placed W) (u : Option ℕ) (b : Bool) → is_declared cs p ≡ b → IsFirstUndeclared cs rs u →
      IsFirstUndeclared cs (rs ++ p ∷ []) (if is_some u || b then u else Some p.number)
  undefined_more cs rs p None true is h = all_push (λ (x : Placed W). is_declared cs x ≡ true) rs p h is
  undefined_more cs rs p None false is h = (rs, p, [], (refl, h, is, refl))
  undefined_more cs rs p (Some n) b is (before, q, after, h) =
      (before, q, after ++ p ∷ [], (ap (λ (z : List (Placed W)). z ++ p ∷ []) h.0 ∙ append_assoc before (q ∷ after) (p ∷ []), h.1, h.2, h.3))

  -- what all rules have in common that are added; `number` is that of the rule's chain, if it is declared
  added : (old new : State W) (cs : List Declared) (rs : List (Placed W)) (p : Placed W) (number : Option ℕ) → Keeps old cs rs → IsWritable p.rule →
      position (bytes_eq p.rule.chain) old.names ≡ number → new.names ≡ old.names → new.chains.items ≡ map (chain_of (rs ++ p ∷ [])) cs →
      new.has_rules ≡ true → (new.undefined ≡ now_undefined old.undefined number p.rule.target p.number) → Keeps new cs (rs ++ p ∷ [])
  added old new cs rs p number keeps few there names chains ruled undefined =
      let here : position (bytes_eq p.rule.chain) (names_of cs) ≡ number = ap (position (bytes_eq p.rule.chain)) (sym keeps.names) ∙ there in
      let among : is_among (names_of cs) p.rule.chain ≡ is_some number = among_of (names_of cs) p.rule.chain ∙ ap (λ z. is_some z) here in
      record {
        names = names ∙ keeps.names;
        differ = keeps.differ;
        dumped = chains;
        ruled = ruled ∙ sym (any_push rs p);
        undefined = subst (IsFirstUndeclared cs (rs ++ p ∷ [])) (sym undefined)
            (undefined_more cs rs p old.undefined (is_some number && is_defined p.rule.target) (ap (λ (z : Bool). z && is_defined p.rule.target) among) keeps.undefined);
        writable = all_push (λ (x : Placed W). IsWritable x.rule) rs p keeps.writable few;
      }

  -- one rule more, of a chain that is declared
  pub rule_added : (old new : State W) (cs : List Declared) (rs : List (Placed W)) (p : Placed W) (k : ℕ) (d : Chain (Prim_ W)) → Keeps old cs rs → IsWritable p.rule →
      position (bytes_eq p.rule.chain) old.names ≡ Some k → new.names ≡ old.names → new.chains.items ≡ set old.chains.items k (with_rule (get_or old.chains.items k d) (rule_of p)) →
      new.has_rules ≡ true → (new.undefined ≡ now_undefined old.undefined (Some k) p.rule.target p.number) → Keeps new cs (rs ++ p ∷ [])
  rule_added old new cs rs p k d keeps few there names chains ruled undefined =
      let here : position (bytes_eq p.rule.chain) (names_of cs) ≡ Some k = ap (position (bytes_eq p.rule.chain)) (sym keeps.names) ∙ there in
      added old new cs rs p (Some k) keeps few there names
      (chains ∙ ap (λ (z : List (Chain (Prim_ W))). set z k (with_rule (get_or z k d) (rule_of p))) keeps.dumped ∙ sym (chains_more rs p cs k d keeps.differ here)) ruled undefined

  -- one rule more, of a chain that isn't declared
  pub rule_kept : (old new : State W) (cs : List Declared) (rs : List (Placed W)) (p : Placed W) → Keeps old cs rs → IsWritable p.rule →
      position (bytes_eq p.rule.chain) old.names ≡ None → new.names ≡ old.names → new.chains.items ≡ old.chains.items →
      new.has_rules ≡ true → (new.undefined ≡ now_undefined old.undefined None p.rule.target p.number) → Keeps new cs (rs ++ p ∷ [])
  rule_kept old new cs rs p keeps few there names chains ruled undefined =
      let here : position (bytes_eq p.rule.chain) (names_of cs) ≡ None = ap (position (bytes_eq p.rule.chain)) (sym keeps.names) ∙ there in
      let among : is_among (names_of cs) p.rule.chain ≡ false = among_of (names_of cs) p.rule.chain ∙ ap (λ z. is_some z) here in
      added old new cs rs p None keeps few there names (chains ∙ keeps.dumped ∙ sym (chains_same rs p cs among)) ruled undefined
