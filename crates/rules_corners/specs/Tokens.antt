-- The tokens of a text, with class, word, place and size, and what each name is known as. Assumes nothing.
use Rattle.std.specs.Prelude.{ℕ, ◌≡◌, refl, List, [], ◌∷◌, ◌++◌, map}
use Prim.Native.String.{String}
use Rattle.rules.specs.Bytes.{bytes}
use Rattle.rules.specs.Kinds.{
  list_names,
  list_named,
  key_names,
  key_named,
  type_names,
  type_named,
  unknown,
  headway,
  single_track,
  dwell,
  turnaround,
  connection,
  subnets,
  first_leg,
  second_leg,
  min_headway,
  min_dwell,
  min_turnaround,
  min_connection,
  max_connection,
  connection_type,
  subnet_id,
  track_ids,
  by_arrival,
  by_departure,
}
use Rattle.rules.specs.Tokens.{Token, token, tokens_of}
use Rattle.rules.specs.Verdict.{All}
use Rattle.rules.specs.Computed.{computed}
use Rattle.rules.specs.declared.tokens.Class.TheVariants.{OpenBrace, CloseBrace, OpenBracket, CloseBracket, Colon, Comma, Quoted, Run, End, Unclosed, Forbidden}

-- ---- THE TABLE

pub data Corner : Type 0 where
  tokens : (text : List ℕ) → List Token → Corner
  -- lists and types by number, keys by bit
  lists : (words : List (List ℕ)) → List ℕ → Corner
  keys : (words : List (List ℕ)) → List ℕ → Corner
  types : (words : List (List ℕ)) → List ℕ → Corner

abbrev pub Right : Corner → Type 0
Right (tokens s ts) = tokens_of s ≡ ts
Right (lists ws ns) = map list_named ws ≡ ns
Right (keys ws ns) = map key_named ws ≡ ns
Right (types ws ns) = map type_named ws ≡ ns

-- the text's end, at its length
abbrev end : ℕ → List Token
end place = token End [] place 0 ∷ []

abbrev quoted : String → (place size : ℕ) → Token
quoted s p n = token Quoted (bytes s) p n

abbrev run : String → (place size : ℕ) → Token
run s p n = token Run (bytes s) p n

abbrev pub pieces : List Corner
pieces =
    -- the end is the last token of every text
    tokens [] (end 0)
    ∷ tokens (bytes " \t\r\n") (end 4)
    -- each sign by itself
    ∷ tokens (bytes "{}[]:,")
    (token OpenBrace [] 0 1
    ∷ token CloseBrace [] 1 1
    ∷ token OpenBracket [] 2 1
    ∷ token CloseBracket [] 3 1
    ∷ token Colon [] 4 1
    ∷ token Comma [] 5 1
    ∷ end 6)
    -- "A string is one token", its quotes counted: empty, with signs and blanks in it, beside another
    ∷ tokens (bytes "\"\"") (quoted "" 0 2 ∷ end 2)
    ∷ tokens (bytes " \"a {:\"") (quoted "a {:" 1 6 ∷ end 7)
    ∷ tokens (bytes "\"a\"\"b\"") (quoted "a" 0 3 ∷ quoted "b" 3 3 ∷ end 6)
    -- "and so is a run of other bytes up to white space, a quote or one of `{}[]:,`", or up to the text's end
    ∷ tokens (bytes "12 3") (run "12" 0 2 ∷ run "3" 3 1 ∷ end 4)
    ∷ tokens (bytes "-1.5e3") (run "-1.5e3" 0 6 ∷ end 6)
    ∷ tokens (bytes "a\"b\"c") (run "a" 0 1 ∷ quoted "b" 1 3 ∷ run "c" 4 1 ∷ end 5)
    ∷ tokens (bytes "1,2]") (run "1" 0 1 ∷ token Comma [] 1 1 ∷ run "2" 2 1 ∷ token CloseBracket [] 3 1 ∷ end 4)
    ∷ tokens (bytes "\\/'") (run "\\/'" 0 3 ∷ end 3)
    ∷ tokens (0 ∷ 255 ∷ 127 ∷ []) (token Run (0 ∷ 255 ∷ 127 ∷ []) 0 3 ∷ end 3)
    -- a string that the text's end cuts
    ∷ tokens (bytes "\"") (token Unclosed [] 0 1 ∷ end 1)
    ∷ tokens (bytes " \"ab ") (token Unclosed (bytes "ab ") 1 4 ∷ end 5)
    -- a forbidden byte ends the clean part: an LF, a backslash, the bytes 31 and 127
    ∷ tokens (bytes "\"a\n") (token Forbidden (bytes "a") 0 2 ∷ end 3)
    ∷ tokens (bytes "\"\\") (token Forbidden [] 0 1 ∷ run "\\" 1 1 ∷ end 2)
    ∷ tokens (bytes "\"" ++ 31 ∷ []) (token Forbidden [] 0 1 ∷ token Run (31 ∷ []) 1 1 ∷ end 2)
    ∷ tokens (bytes "\"" ++ 127 ∷ []) (token Forbidden [] 0 1 ∷ token Run (127 ∷ []) 1 1 ∷ end 2)
    ∷ tokens (bytes "\" ~\"") (quoted " ~" 0 4 ∷ end 4)
    -- names: each is known as itself, and nothing else is known
    ∷ lists list_names (headway ∷ single_track ∷ dwell ∷ turnaround ∷ connection ∷ subnets ∷ [])
    ∷ keys key_names
    (first_leg
    ∷ second_leg
    ∷ min_headway
    ∷ min_dwell
    ∷ min_turnaround
    ∷ min_connection
    ∷ max_connection
    ∷ connection_type
    ∷ subnet_id
    ∷ track_ids
    ∷ [])
    ∷ types type_names (by_arrival ∷ by_departure ∷ [])
    ∷ lists ([] ∷ bytes "headway" ∷ bytes "headway_time_constraintsx" ∷ key_names) (map (λ w. unknown) ([] ∷ [] ∷ [] ∷ key_names))
    ∷ keys ([] ∷ bytes "leg_id" ∷ bytes "First_leg_id" ∷ list_names) (map (λ w. unknown) ([] ∷ [] ∷ [] ∷ list_names))
    ∷ types ([] ∷ bytes "arrival_to_arrival" ∷ bytes "departure_to_arrival" ∷ key_names) (map (λ w. unknown) ([] ∷ [] ∷ [] ∷ key_names))
    ∷ []

pieces_hold : All Right pieces
unfolding computed
pieces_hold = (refl, (refl, (refl, (refl, (refl, (refl, (refl, (refl, (refl, (refl, (refl, (refl, (refl, (refl, (refl, (refl, (refl, (refl, (refl, (refl, (refl, (refl, (refl, (refl, (refl, tt)))))))))))))))))))))))))
