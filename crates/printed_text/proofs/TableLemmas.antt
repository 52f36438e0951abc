-- The table of printed chains, and the dump that its text is.
use Rattle.std.proofs.Common.{◌≡◌, ◌≢◌, ◌∙◌, ◌++◌, ◌+◌, ◌<◌, not, ℕ, List, [], ◌∷◌, true, false, map, length, refl, ap, sym, append-nil, inl, codes, arith}
use Rattle.std.specs.List.{AllByRecursion}
use Rattle.std.specs.Str.{bytes_eq}
use Rattle.std.proofs.lemmas.Bool.{and_from, not_from_false, or_from}
use Rattle.std.proofs.lemmas.List.{length-map, map-append}
use Rattle.dump_grammar.specs.ChainLines.{is_among}
use Rattle.dump_grammar.specs.Groups.{all_differ}
use Rattle.dump_grammar.specs.Lines.{Numbered, Text, Word, bare, numbered_from}
use Rattle.dump_grammar.specs.Reads.{IsDump}
use Rattle.dump_grammar.specs.Tables.{AreTables, DumpTable, IsFilterBody, IsTable, lines_of}
use Rattle.dump_print.specs.Spelling.{lines_text}
use Rattle.dump_print.specs.Written.{KeepsWords}
use Rattle.printed_text.proofs.Blocks.{AreApart, Block, HasGoodRules, IsGoodChain, all_places, all_printed, all_spelled, all_words, block_names, chain_line, chains_declared, chains_from, chains_printed, declared_of, dump_is, rules_declared}
use Rattle.basics.proofs.Lists.{each_append, in_bounds}
use Rattle.printed_text.proofs.ListLemmas.{bytes_differ, first_one}
use Rattle.printed_text.proofs.WordLemmas.{code_is_written}
use Rattle.printed_text.proofs.TextLines.{IsPrinted, is_printed, line_of, lines_of_text, none_passed, numbered_joined}

-- the line that opens the table, and the one that closes it
abbrev pub opener : List Word
opener = bare (codes "*filter") ∷ []

abbrev pub closer : List Word
closer = bare (codes "COMMIT") ∷ []

opener_printed : KeepsWords → IsPrinted opener
opener_printed keeps = is_printed keeps (bare (codes "*filter")) [] (code_is_written (codes "*filter") refl, tt) refl

closer_printed : KeepsWords → IsPrinted closer
closer_printed keeps = is_printed keeps (bare (codes "COMMIT")) [] (code_is_written (codes "COMMIT") refl, tt) refl

module _ {W : ℕ} where
  -- the lines between the first and the last
  abbrev pub body_lines : List (Block W) → List (List Word)
  body_lines blocks = map chain_line blocks ++ all_words blocks

  abbrev pub table_lines : List (Block W) → List (List Word)
  table_lines blocks = opener ∷ (body_lines blocks ++ closer ∷ [])

  abbrev table_of : List (Block W) → DumpTable
  table_of blocks = record {
    name = codes "filter";
    opener = record { number = 1; bytes = line_of opener };
    body = numbered_from 2 (map line_of (body_lines blocks));
    close = record { number = 2 + length (map line_of (body_lines blocks)); bytes = line_of closer };
  }

  table_numbered : (blocks : List (Block W)) → numbered_from 1 (map line_of (table_lines blocks)) ≡ lines_of (table_of blocks)
  table_numbered blocks = ap (λ (l : List Numbered). record { number = 1; bytes = line_of opener } ∷ l)
      (ap (numbered_from 2) (map-append line_of (body_lines blocks) (closer ∷ [])) ∙ numbered_joined 2 (map line_of (body_lines blocks)) (line_of closer ∷ []))

  chain_lines_length : (blocks : List (Block W)) → length (map line_of (map chain_line blocks)) ≡ length blocks
  chain_lines_length blocks = length-map (map chain_line blocks) line_of ∙ length-map blocks chain_line

  body_numbered : (blocks : List (Block W)) →
      numbered_from 2 (map line_of (body_lines blocks))
      ≡ numbered_from 2 (map line_of (map chain_line blocks)) ++ numbered_from (2 + length blocks) (map line_of (all_words blocks))
  body_numbered blocks =
      ap (numbered_from 2) (map-append line_of (map chain_line blocks) (all_words blocks))
      ∙ numbered_joined 2 (map line_of (map chain_line blocks)) (map line_of (all_words blocks))
      ∙ ap (λ m. numbered_from 2 (map line_of (map chain_line blocks)) ++ numbered_from (2 + m) (map line_of (all_words blocks))) (chain_lines_length blocks)

  among_none : (name : Text) (blocks : List (Block W)) → AllByRecursion (λ (b : Block W). b.name ≢ name) blocks → is_among (block_names blocks) name ≡ false
  among_none name [] apart = refl
  among_none name (block ∷ blocks) apart = or_from (bytes_eq block.name name) (is_among (block_names blocks) name) (bytes_differ block.name name apart.0) (among_none name blocks apart.1)

  names_differ : (blocks : List (Block W)) → AreApart blocks → all_differ (block_names blocks) ≡ true
  names_differ [] apart = refl
  names_differ (block ∷ blocks) apart =
      and_from (not (is_among (block_names blocks) block.name)) (all_differ (block_names blocks))
      (not_from_false (is_among (block_names blocks) block.name) (among_none block.name blocks apart.0)) (names_differ blocks apart.1)

module _ {W : ℕ} (Reads : Text → ℕ → Type 0) where
  -- the chains are declared once each, and each line is what it is meant to be
  pub record AreGood (blocks : List (Block W)) : Type 0 where
    pub apart : AreApart blocks
    pub chains : AllByRecursion IsGoodChain blocks
    pub rules : AllByRecursion (HasGoodRules Reads (block_names blocks)) blocks

  filter_body : (blocks : List (Block W)) → AreGood blocks →
      IsFilterBody W Reads (numbered_from 2 (map line_of (body_lines blocks))) (map declared_of blocks) (all_places (2 + length blocks) blocks)
  filter_body blocks good = record {
    chain_lines = numbered_from 2 (map line_of (map chain_line blocks));
    rule_lines = numbered_from (2 + length blocks) (map line_of (all_words blocks));
    whole = body_numbered blocks;
    declares = chains_declared 2 blocks good.chains;
    once = names_differ blocks good.apart;
    spells = all_spelled Reads (block_names blocks) (2 + length blocks) blocks good.rules;
  }

  table_is : KeepsWords → (blocks : List (Block W)) → AreGood blocks → IsTable W Reads (table_of blocks)
  table_is keeps blocks good = record {
    named = λ e. cc;
    opens = (opener_printed keeps).kept;
    inside = inl (refl, (map declared_of blocks, all_places (2 + length blocks) blocks, filter_body blocks good), (closer_printed keeps).kept);
  }

  lines_printed : KeepsWords → (blocks : List (Block W)) → AreGood blocks → AllByRecursion IsPrinted (table_lines blocks)
  lines_printed keeps blocks good = (
    opener_printed keeps,
    each_append IsPrinted (body_lines blocks) (closer ∷ [])
        (each_append IsPrinted (map chain_line blocks) (all_words blocks) (chains_printed blocks good.chains) (all_printed Reads (block_names blocks) blocks good.rules))
        (closer_printed keeps, tt),
  )

  tables_are : KeepsWords → (blocks : List (Block W)) → AreGood blocks → AreTables W Reads (numbered_from 1 (map line_of (table_lines blocks))) (table_of blocks ∷ [])
  tables_are keeps blocks good = record {
    whole = none_passed 1 (table_lines blocks) (lines_printed keeps blocks good) ∙ table_numbered blocks ∙ sym (append-nil (lines_of (table_of blocks)));
    each = (table_is keeps blocks good, tt);
    one_filter = λ i j s u e d a b.
        let m : i < 1 = in_bounds (table_of blocks ∷ []) i s e in
        let n : j < 1 = in_bounds (table_of blocks ∷ []) j u d in
        omega (arith, m, n);
  }

  -- the text of the table is the dump of its chains
  pub text_is_dump : KeepsWords → (blocks : List (Block W)) → AreGood blocks →
      IsDump W Reads (lines_text (table_lines blocks)) (record { chains = chains_from (2 + length blocks) blocks })
  text_is_dump keeps blocks good = record {
    chains = map declared_of blocks;
    rules = all_places (2 + length blocks) blocks;
    filter_is = record {
      lines = map line_of (table_lines blocks);
      parted = lines_of_text (table_lines blocks) (lines_printed keeps blocks good);
      tables = table_of blocks ∷ [];
      tabled = tables_are keeps blocks good;
      table = table_of blocks;
      there = first_one (table_of blocks) [];
      is_filter = refl;
      inside = filter_body blocks good;
    };
    declared = rules_declared (2 + length blocks) blocks;
    dump_is = sym (dump_is (2 + length blocks) blocks good.apart);
  }
