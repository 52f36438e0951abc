-- The parts of a command line, without where their texts lie in memory.
use Rattle.std.specs.Prelude.{map, option_map}
use Rattle.request.specs.Requests.{Parts}
use Rattle.request.specs.declared.line.Line.{Line}

-- the texts that the line points to
abbrev pub line_parts : Line → Parts
line_parts l = record {
  mode = option_map (λ s. s.now) l.mode;
  args = map (λ s. s.now) l.args.items;
  chain = option_map (λ s. s.now) l.chain;
  family = option_map (λ s. s.now) l.family;
  side = option_map (λ s. s.now) l.side;
}
