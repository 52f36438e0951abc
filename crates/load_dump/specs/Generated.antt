-- A dump of a given size, for measuring.
use Rattle.std.specs.Prelude.{ℕ, zero, suc, ◌+◌, ◌/◌, ◌%◌, ◌==◌, List, [], ◌∷◌, ◌++◌, codes, decimal, if◌then◌else◌}

-- the net of the rule of this number: 10.X.Y.0/24, where X and Y are the number's two bytes
abbrev pub net_text : ℕ → List ℕ
net_text i = codes "10." ++ (decimal (i / 256) ++ (codes "." ++ (decimal (i % 256) ++ codes ".0/24")))

-- the chain of the rule of this number: S0 to S7, each for five rules
abbrev pub chain_text : ℕ → List ℕ
chain_text i = codes "S" ++ decimal ((i / 5) % 8)

-- the rule of this number, from 0. Its kinds take turns: a doubtful call, a return, an accepted port, a doubtful drop, an accept
abbrev pub rule_text : ℕ → List ℕ
rule_text i =
    if i % 5 == 0 then codes "-A FORWARD -s " ++ (net_text i ++ (codes " -m limit --limit 5/sec -j " ++ chain_text i))
    else if i % 5 == 1 then codes "-A " ++ (chain_text i ++ (codes " -s " ++ (net_text i ++ codes " -j RETURN")))
    else if i % 5 == 2 then codes "-A " ++ (chain_text i ++ (codes " -d " ++ (net_text i ++ (codes " -p tcp -m tcp --dport " ++ (decimal (i + 1) ++ codes " -j ACCEPT")))))
    else if i % 5 == 3 then codes "-A " ++ (chain_text i ++ codes " -p udp -m recent --rcheck -j DROP")
    else codes "-A FORWARD -d " ++ (net_text i ++ codes " -j ACCEPT")

-- the lines of so many rules
abbrev pub rule_lines : ℕ → List ℕ
rule_lines zero = []
rule_lines (suc n) = rule_lines n ++ (rule_text n ++ 10 ∷ [])

-- the lines before the rules
abbrev pub head_text : List ℕ
head_text = codes "*filter\n:FORWARD DROP [0:0]\n:S0 - [0:0]\n:S1 - [0:0]\n:S2 - [0:0]\n:S3 - [0:0]\n:S4 - [0:0]\n:S5 - [0:0]\n:S6 - [0:0]\n:S7 - [0:0]\n"

-- a dump of a table filter with so many rules
unfoldable pub load_text : ℕ → List ℕ
load_text n = head_text ++ (rule_lines n ++ codes "COMMIT\n")
