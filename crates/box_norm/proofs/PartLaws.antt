-- Of the cubes that two cuts leave together, a packet is in no more than of those that were cut.
use Rattle.std.proofs.Common.{◌≡◌, ℕ, ◌+◌, ◌^◌, ◌≤◌, ◌∙◌, List, [], ◌∷◌, ◌++◌, Bool, true, false, not, ◌&&◌, cond, nat_lt, Option, None, Some, refl, sym, ap, subst, map, arith, bit_and, bit_xor}
use Rattle.std.specs.Prelude.{if◌then◌else◌, count_by}
use Rattle.std.proofs.lemmas.List.Sums.{sum_by-append, sum_by-cons}
use Rattle.match_expr.specs.declared.expr.Expr.{Expr, map-Expr}
use Rattle.match_expr.specs.declared.expr.Expr.TheOpen.{Expr-F}
use Rattle.match_expr.specs.declared.expr.Expr.TheFolds.{fold-roll-Expr, ind-Expr}
use Rattle.interval_set.specs.declared.set.Range.{Range}
use Rattle.interval_set.specs.Numbers.{has}
use Rattle.interval_set.specs.Spelling.{set_and, set_minus}
use Rattle.interval_set.proofs.Spelling.{and_has, minus_has}
use Rattle.name_set.specs.declared.pattern.Pattern.{Pattern}
use Rattle.name_set.specs.declared.set.NameSet.{NameSet}
use Rattle.name_set.specs.Patterns.{fits}
use Rattle.name_set.specs.Names.{has_name, has_name_some, cut_of, cut_not_of}
use Rattle.name_set.proofs.Cuts.{cut_names, cut_not_names}
use Rattle.primitives.specs.declared.prim.Packet.{Packet}
use Rattle.primitives.specs.declared.prim.Prim_.{Prim_}
use Rattle.primitives.specs.Holds.{has_bit}
use Rattle.box_norm.specs.declared.cube.Cube.{Cube}
use Rattle.box_norm.specs.Cubes.{holds_cube, is_none, kept, each_piece}
use Rattle.box_norm.specs.Pieces.{single, flags_where, cut_pieces, omit_pieces}
use Rattle.box_norm.specs.Disjoint.{AreDisjoint}
use Rattle.box_norm.specs.Cuts.{Cuts, keep_all, omit_all, cuts_step, cuts_by}
use Rattle.box_norm.proofs.Dims.{Dim, Value, has_value, put, fits_in, fits_else, holds_by, put_holds}
use Rattle.box_norm.proofs.PieceLaws.{none_holds, in_some, kept_some, out_some, bits_and, bits_less, only_proto}

abbrev pub one : Bool → ℕ
one b = cond b 1 0

-- in how many of the cubes the packet is
abbrev pub times : {W : ℕ} → List (Cube W) → Packet → ℕ
times cubes p = count_by (λ c. holds_cube c p) cubes

pub times_append : {W : ℕ} (a b : List (Cube W)) (p : Packet) → times (a ++ b) p ≡ times a p + times b p
times_append a b p = sum_by-append (λ c. cond (holds_cube c p) 1 0) a b

pub times_cons : {W : ℕ} (c : Cube W) (cs : List (Cube W)) (p : Packet) → times (c ∷ cs) p ≡ one (holds_cube c p) + times cs p
times_cons c cs p = sum_by-cons (λ c. cond (holds_cube c p) 1 0) c cs

kept_by : {W : ℕ} (b : Bool) (c : Cube W) (p : Packet) → is_none c ≡ b → times (if b then [] else c ∷ []) p ≡ one (holds_cube c p)
kept_by true c p h = ap one (sym (none_holds c p h))
kept_by false c p h = let e = times_cons c [] p in omega (arith, e)

pub times_kept : {W : ℕ} (c : Cube W) (p : Packet) → times (kept c) p ≡ one (holds_cube c p)
times_kept c p = kept_by (is_none c) c p refl

here_split : (x y z r : Bool) → one y + one z ≤ one x → one (y && r) + one (z && r) ≤ one (x && r)
here_split true true true r h = absurd (omega (arith, h))
here_split true true false true h = omega arith
here_split true true false false h = omega arith
here_split true false true true h = omega arith
here_split true false true false h = omega arith
here_split true false false r h = omega arith
here_split false true true r h = absurd (omega (arith, h))
here_split false true false r h = absurd (omega (arith, h))
here_split false false true r h = absurd (omega (arith, h))
here_split false false false r h = h

-- one dimension in two parts
pub two_parts : {W : ℕ} (d : Dim) (c : Cube W) (p : Packet) (s t : Value d) → one (has_value d s p) + one (has_value d t p) ≤ one (fits_in d c p) →
    one (holds_cube (put d c s) p) + one (holds_cube (put d c t) p) ≤ one (holds_cube c p)
two_parts d c p s t h =
    omega (arith, here_split (fits_in d c p) (has_value d s p) (has_value d t p) (fits_else d c p) h, ap one (put_holds d c s p), ap one (put_holds d c t p), ap one (holds_by d c p))

-- what both have and what the second lacks
parts : (a b x y : Bool) → x ≡ (a && b) → y ≡ (a && not b) → one x + one y ≤ one a
parts true true x y e f = rw (e, f) (omega arith)
parts true false x y e f = rw (e, f) (omega arith)
parts false b x y e f = rw (e, f) (omega arith)

parts_below : (l a b x y : Bool) → x ≡ (l && (a && b)) → y ≡ (l && (a && not b)) → one x + one y ≤ one a
parts_below true a b x y e f = parts a b x y e f
parts_below false true b x y e f = rw (e, f) (omega arith)
parts_below false false b x y e f = rw (e, f) (omega arith)

pub set_parts : (w : ℕ) (a b : List Range) (n : ℕ) → one (has (set_and w a b) n) + one (has (set_minus w a b) n) ≤ one (has a n)
set_parts w a b n = parts_below (nat_lt n (2 ^ w)) (has a n) (has b n) _ _ (and_has w a b n) (minus_has w a b n)

pub bit_parts : (a b n : ℕ) → one (has_bit (bit_and a b) n) + one (has_bit (bit_xor a (bit_and a b)) n) ≤ one (has_bit a n)
bit_parts a b n = parts (has_bit a n) (has_bit b n) _ _ (bits_and a b n) (bits_less a b n)

pub name_parts : (s : NameSet) (by : Pattern) (n : List ℕ) → one (has_name_some (cut_of s by) n) + one (has_name_some (cut_not_of s by) n) ≤ one (has_name s n)
name_parts s by n = parts (has_name s n) (fits by n) _ _ (cut_names s by n) (cut_not_names s by n)

kept_parts : {W : ℕ} (d : Dim) (c : Cube W) (p : Packet) (s t : Value d) → one (has_value d s p) + one (has_value d t p) ≤ one (fits_in d c p) →
    times (kept (put d c s)) p + times (kept (put d c t)) p ≤ one (holds_cube c p)
kept_parts d c p s t h = omega (arith, times_kept (put d c s) p, times_kept (put d c t) p, two_parts d c p s t h)

some_times : {W : ℕ} (d : Dim) (c : Cube W) (with : NameSet → Cube W) (o : Option NameSet) (n : List ℕ) (p : Packet) →
    ((s : NameSet) → holds_cube (with s) p ≡ (has_name s n && fits_else d c p)) → times (kept_some with o) p ≡ one (has_name_some o n && fits_else d c p)
some_times d c with None n p e = refl
some_times d c with (Some s) n p e = times_kept (with s) p ∙ ap one (e s)

name_times : {W : ℕ} (d : Dim) (c : Cube W) (with : NameSet → Cube W) (o q : Option NameSet) (n : List ℕ) (p : Packet) →
    ((s : NameSet) → holds_cube (with s) p ≡ (has_name s n && fits_else d c p)) → one (has_name_some o n) + one (has_name_some q n) ≤ one (fits_in d c p) →
    times (kept_some with o) p + times (kept_some with q) p ≤ one (holds_cube c p)
name_times d c with o q n p e h =
    omega (arith, some_times d c with o n p e, some_times d c with q n p e, ap one (holds_by d c p), here_split (fits_in d c p) (has_name_some o n) (has_name_some q n) (fits_else d c p) h)

-- one protocol and one dimension in two parts, and the other protocols beside them
proto_times : {W : ℕ} (d : Dim) (c : Cube W) (n : ℕ) (p : Packet) (s t : Value d) → one (has_value d s p) + one (has_value d t p) ≤ one (fits_in d (only_proto c n) p) →
    times (kept (put d (only_proto c n) s)) p + times (kept (record c { proto = set_minus 8 c.proto (single n) }) ++ kept (put d (only_proto c n) t)) p ≤ one (holds_cube c p)
proto_times d c n p s t h =
    let others : Cube _ = record c { proto = set_minus 8 c.proto (single n) } in
    omega (
      arith,
      kept_parts d (only_proto c n) p s t h,
      times_kept others p,
      times_append (kept others) (kept (put d (only_proto c n) t)) p,
      two_parts Dim.Proto c p (set_and 8 c.proto (single n)) (set_minus 8 c.proto (single n)) (set_parts 8 c.proto (single n) p.proto),
    )

-- of the pieces of a cube
pub piece_times : {W : ℕ} (x : Prim_ W) (c : Cube W) (p : Packet) → times (cut_pieces x c) p + times (omit_pieces x c) p ≤ one (holds_cube c p)
piece_times {W} (Prim_.Src set) c p = kept_parts Dim.Src c p _ _ (set_parts W c.src set p.src)
piece_times {W} (Prim_.Dst set) c p = kept_parts Dim.Dst c p _ _ (set_parts W c.dst set p.dst)
piece_times (Prim_.InName by) c p = let h = name_times Dim.InName c (λ s. record c { in_name = s }) (cut_of c.in_name by) (cut_not_of c.in_name by) p.in_name p (λ s. put_holds Dim.InName c s p) (name_parts c.in_name by p.in_name) in
    omega (arith, h, ap (λ l. times l p) (in_some c (cut_of c.in_name by)), ap (λ l. times l p) (in_some c (cut_not_of c.in_name by)))
piece_times (Prim_.OutName by) c p = let h = name_times Dim.OutName c (λ s. record c { out_name = s }) (cut_of c.out_name by) (cut_not_of c.out_name by) p.out_name p (λ s. put_holds Dim.OutName c s p) (name_parts c.out_name by p.out_name) in
    omega (arith, h, ap (λ l. times l p) (out_some c (cut_of c.out_name by)), ap (λ l. times l p) (out_some c (cut_not_of c.out_name by)))
piece_times (Prim_.Proto proto) c p = kept_parts Dim.Proto c p _ _ (set_parts 8 c.proto (single proto) p.proto)
piece_times (Prim_.SrcPorts ports) c p = proto_times Dim.Sport c ports.proto p _ _ (set_parts 16 c.sport ports.set p.sport)
piece_times (Prim_.DstPorts ports) c p = proto_times Dim.Dport c ports.proto p _ _ (set_parts 16 c.dport ports.set p.dport)
piece_times (Prim_.Flags mask comp) c p = proto_times Dim.Flags c 6 p _ _ (bit_parts c.flags (flags_where mask comp 64) p.flags)
piece_times (Prim_.State states) c p = kept_parts Dim.State c p _ _ (bit_parts c.state states p.state)
piece_times (Prim_.IcmpKind m) c p = proto_times Dim.Types c m.proto p _ _ (set_parts 8 c.icmp (single m.kind) p.icmp)
piece_times Prim_.Always c p = let e = times_kept c p in omega (arith, e)

-- of the lists that two cuts leave
abbrev pub Parts : {W : ℕ} → Packet → Cuts W → Type 0
Parts {W} p cuts = (l : List (Cube W)) → times (cuts.keep l).list p + times (cuts.omit l).list p ≤ times l p

abbrev AllParts : {W : ℕ} → Packet → List (Cuts W) → Type 0
AllParts p [] = Unit {0}
AllParts p (e ∷ es) = Parts p e × AllParts p es

each_times : {W : ℕ} (x : Prim_ W) (p : Packet) (l : List (Cube W)) → times (each_piece (cut_pieces x) l) p + times (each_piece (omit_pieces x) l) p ≤ times l p
each_times x p [] = omega arith
each_times x p (c ∷ cs) = omega (arith, each_times x p cs, piece_times x c p, times_cons c cs p, times_append (cut_pieces x c) (each_piece (cut_pieces x) cs) p, times_append (omit_pieces x c) (each_piece (omit_pieces x) cs) p)

all_times : {W : ℕ} (p : Packet) (es : List (Cuts W)) → AllParts p es → (l : List (Cube W)) → times (keep_all es l).list p + times (omit_all es l).list p ≤ times l p
all_times p [] h l = omega arith
all_times p (e ∷ es) h l = omega (arith, all_times p es h.1 (e.keep l).list, h.0 l, times_append (e.omit l).list (omit_all es (e.keep l).list).list p)

every_part : {W : ℕ} (p : Packet) (es : List ((e : Expr (Prim_ W)) × Parts p (cuts_by {W = W} e))) → AllParts p (map (cuts_by {W = W}) (map (λ e. e.0) es))
every_part p [] = tt
every_part p (e ∷ es) = (e.1, every_part p es)

module _ (W : ℕ) (p : Packet) where
  abbrev E : Type 0
  E = Expr (Prim_ W)

  abbrev Divides : E → Type 0
  Divides e = Parts p (cuts_by {W = W} e)

  abbrev Layer : Expr-F (Prim_ W) E → Type 0
  Layer z = Parts p (cuts_step (map-Expr (Prim_ W) E (Cuts W) (cuts_by {W = W}) z))

  layer : (z : Expr-F (Prim_ W) ((e : E) × Divides e)) → Layer (map-Expr (Prim_ W) ((e : E) × Divides e) E (λ e. e.0) z)
  layer (Expr-F.All es) = λ l. all_times p (map (cuts_by {W = W}) (map (λ e. e.0) es)) (every_part p es) l
  layer (Expr-F.Not e) = λ l. let h = e.1 l in omega (arith, h)
  layer (Expr-F.Prim x) = λ l. each_times x p l

  -- of the lists that the two cuts by an expression leave together, a packet is in no more than of the list that was cut
  pub cuts_divide : (e : E) → Divides e
  cuts_divide = ind-Expr (Prim_ W) Divides (λ x y is. subst (λ c. Parts p c) (sym (fold-roll-Expr (Prim_ W) (Cuts W) (cuts_step {W = W}) x)) (subst Layer is (layer y)))

-- a list of cubes that share no packet stays so
module _ (W : ℕ) (e : Expr (Prim_ W)) (l : List (Cube W)) (h : AreDisjoint l) where
  pub keep_disjoint : AreDisjoint ((cuts_by {W = W} e).keep l).list
  keep_disjoint = λ p. let d = cuts_divide W p e l in let k = h p in omega (arith, d, k)

  pub omit_disjoint : AreDisjoint ((cuts_by {W = W} e).omit l).list
  omit_disjoint = λ p. let d = cuts_divide W p e l in let k = h p in omega (arith, d, k)
