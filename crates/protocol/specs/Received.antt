-- Facts on the panel's request reader, on bytes that AOSP's service was sent (captures.jsonl, by the label given) or that a document names. 01:
-- "Under 8 bytes: more. Then 18 if the id is none of the host's eleven .., if arg exceeds" its limit, "or QUIT's arg isn't 0; DONE's arg is
-- free. Then more until the message is whole. Then 18 for a path with NUL or over" the limit, "an inner id that differs, flags the host would
-- refuse with 9, a SEND with no comma or whose text after the last comma isn't canonical decimal of a u32." The limits of paths and data, 02's
-- [2]: "that of the other path requests 1,024; DATA keeps 65,536". SEND's mode and limit, 02's [5]: "A leading 0 followed by one to eleven
-- octal digits whose value fits 32 bits is octal; a lone "0" is zero as ever; other text goes as before. Largest SEND arg: 1,037".
-- Assumes nothing.
use Rattle.std.specs.Prelude.{ℕ, ◌+◌, ◌-◌, List, [], ◌∷◌, ◌++◌, map, length, take, replicate}
use Rattle.std.proofs.Math.Option.{Option, none, some}
use Rattle.protocol.specs.Bytes.{ascii}
use Rattle.protocol.specs.Decimal.{canonical}
use Rattle.protocol.specs.Fact.{Fact}
use Rattle.protocol.specs.Ids.{Id, all, letters, named, published}
use Rattle.protocol.specs.Messages.{ask, stat, sta2, list, lis2, recv, Request, rcv2, send, snd2, chunk, done, quit}
use Rattle.protocol.specs.Modes.{octal_text}
use Rattle.protocol.specs.Requests.{Read, more, refused, request, read_request}

abbrev row : List ℕ → Read → Fact Read
row s r = record { computed = read_request published s; paper = r }

-- a message: read with bytes behind it, and more while any of it is missing, at 8 bytes, one byte short and under 8
abbrev message : List ℕ → Request → (size : ℕ) → List (Fact Read)
message s q n =
    row (s ++ ascii "QUIT") (request q n)
    ∷ row s (request q n)
    ∷ map (λ k. row (take k s) more) (0 ∷ 4 ∷ 7 ∷ (n - 1) ∷ [])

abbrev messages : List (Fact Read)
messages =
    -- STAT-file, STA2-file, LIST-dir, LIS2-dir, RECV-file, STAT-empty-path
    message (ascii "STAT" ++ 12 ∷ 0 ∷ 0 ∷ 0 ∷ [] ++ ascii "/t/hello.txt") (ask stat (ascii "/t/hello.txt")) 20
    ++ message (ascii "STA2" ++ 12 ∷ 0 ∷ 0 ∷ 0 ∷ [] ++ ascii "/t/hello.txt") (ask sta2 (ascii "/t/hello.txt")) 20
    ++ message (ascii "LIST" ++ 2 ∷ 0 ∷ 0 ∷ 0 ∷ [] ++ ascii "/t") (ask list (ascii "/t")) 10
    ++ message (ascii "LIS2" ++ 2 ∷ 0 ∷ 0 ∷ 0 ∷ [] ++ ascii "/t") (ask lis2 (ascii "/t")) 10
    ++ message (ascii "RECV" ++ 12 ∷ 0 ∷ 0 ∷ 0 ∷ [] ++ ascii "/t/hello.txt") (ask recv (ascii "/t/hello.txt")) 20
    ++ message (ascii "STAT" ++ 0 ∷ 0 ∷ 0 ∷ 0 ∷ []) (ask stat []) 8
    -- RCV2-zstd-text, SND2-lz4, SND2-dry-run; four distinct bytes of mode
    ++ message (ascii "RCV2" ++ 7 ∷ 0 ∷ 0 ∷ 0 ∷ [] ++ ascii "/t/textRCV2" ++ 4 ∷ 0 ∷ 0 ∷ 0 ∷ []) (rcv2 (ascii "/t/text") 4) 23
    ++ message (ascii "SND2" ++ 6 ∷ 0 ∷ 0 ∷ 0 ∷ [] ++ ascii "/w/lz4SND2" ++ 0xa4 ∷ 0x81 ∷ 0 ∷ 0 ∷ 2 ∷ 0 ∷ 0 ∷ 0 ∷ []) (snd2 (ascii "/w/lz4") 33188 2) 26
    ++ message (ascii "SND2" ++ 6 ∷ 0 ∷ 0 ∷ 0 ∷ [] ++ ascii "/w/drySND2" ++ 1 ∷ 2 ∷ 3 ∷ 0xf4 ∷ 0 ∷ 0 ∷ 0 ∷ 0x80 ∷ [])
    (snd2 (ascii "/w/dry") 0xf403_0201 0x8000_0000) 26
    -- a mode of SND2 is a number: these four bytes are "0755"
    ++ message (ascii "SND2" ++ 1 ∷ 0 ∷ 0 ∷ 0 ∷ [] ++ ascii "/SND20755" ++ 0 ∷ 0 ∷ 0 ∷ 0 ∷ []) (snd2 (ascii "/") 0x3535_3730 0) 21
    -- SEND-file, SEND-comma-in-path; the longest mode; no path
    ++ message (ascii "SEND" ++ 10 ∷ 0 ∷ 0 ∷ 0 ∷ [] ++ ascii "/w/a,33188") (send (ascii "/w/a") 33188) 18
    ++ message (ascii "SEND" ++ 12 ∷ 0 ∷ 0 ∷ 0 ∷ [] ++ ascii "/w/d,e,33188") (send (ascii "/w/d,e") 33188) 20
    ++ message (ascii "SEND" ++ 13 ∷ 0 ∷ 0 ∷ 0 ∷ [] ++ ascii "/w,4294967295") (send (ascii "/w") 4294967295) 21
    ++ message (ascii "SEND" ++ 2 ∷ 0 ∷ 0 ∷ 0 ∷ [] ++ ascii ",0") (send [] 0) 10
    -- modes in octal: SEND-octal-mode, 02's example, two zeros
    ++ message (ascii "SEND" ++ 9 ∷ 0 ∷ 0 ∷ 0 ∷ [] ++ ascii "/w/b,0755") (send (ascii "/w/b") 493) 17
    ++ message (ascii "SEND" ++ 14 ∷ 0 ∷ 0 ∷ 0 ∷ [] ++ ascii "/w/d,e,0100644") (send (ascii "/w/d,e") 33188) 22
    ++ message (ascii "SEND" ++ 3 ∷ 0 ∷ 0 ∷ 0 ∷ [] ++ ascii ",00") (send [] 0) 11
    -- SEND-file's data and DONE, SEND-empty-data, QUIT; any time
    ++ message (ascii "DATA" ++ 9 ∷ 0 ∷ 0 ∷ 0 ∷ [] ++ ascii "contents" ++ 10 ∷ []) (chunk (ascii "contents" ++ 10 ∷ [])) 17
    ++ message (ascii "DATA" ++ 2 ∷ 0 ∷ 0 ∷ 0 ∷ 0 ∷ 255 ∷ []) (chunk (0 ∷ 255 ∷ [])) 10
    ++ message (ascii "DATA" ++ 0 ∷ 0 ∷ 0 ∷ 0 ∷ []) (chunk []) 8
    ++ message (ascii "DONE" ++ 0 ∷ 0x10 ∷ 0x5e ∷ 0x5f ∷ []) (done 1600000000) 8
    ++ message (ascii "DONE" ++ 0xff ∷ 0xff ∷ 0xff ∷ 0xff ∷ []) (done 0xffff_ffff) 8
    ++ message (ascii "QUIT" ++ 0 ∷ 0 ∷ 0 ∷ 0 ∷ []) quit 8

-- the longest path, in a message that is read whole, and more while its last byte is missing
abbrev longest_path : List ℕ
longest_path = replicate 1024 97

abbrev long_message : List ℕ → Request → (size : ℕ) → List (Fact Read)
long_message s q n = row s (request q n) ∷ row (take (n - 1) s) more ∷ []

abbrev long_messages : List (Fact Read)
long_messages =
    -- STAT-path-1024 (there with a path of its own), and the others, each with its largest arg; a SEND with shorter modes
    long_message (ascii "STAT" ++ 0 ∷ 4 ∷ 0 ∷ 0 ∷ longest_path) (ask stat longest_path) 1032
    ++ long_message (ascii "STA2" ++ 0 ∷ 4 ∷ 0 ∷ 0 ∷ longest_path) (ask sta2 longest_path) 1032
    ++ long_message (ascii "LIST" ++ 0 ∷ 4 ∷ 0 ∷ 0 ∷ longest_path) (ask list longest_path) 1032
    ++ long_message (ascii "LIS2" ++ 0 ∷ 4 ∷ 0 ∷ 0 ∷ longest_path) (ask lis2 longest_path) 1032
    ++ long_message (ascii "RECV" ++ 0 ∷ 4 ∷ 0 ∷ 0 ∷ longest_path) (ask recv longest_path) 1032
    ++ long_message (ascii "RCV2" ++ 0 ∷ 4 ∷ 0 ∷ 0 ∷ longest_path ++ ascii "RCV2" ++ 4 ∷ 0 ∷ 0 ∷ 0 ∷ []) (rcv2 longest_path 4) 1040
    ++ long_message (ascii "SEND" ++ 0x0d ∷ 4 ∷ 0 ∷ 0 ∷ longest_path ++ ascii ",037777777777") (send longest_path 4294967295) 1045
    ++ long_message (ascii "SEND" ++ 0x0b ∷ 4 ∷ 0 ∷ 0 ∷ longest_path ++ ascii ",4294967295") (send longest_path 4294967295) 1043
    ++ long_message (ascii "SND2" ++ 0 ∷ 4 ∷ 0 ∷ 0 ∷ longest_path ++ ascii "SND2" ++ 0xa4 ∷ 0x81 ∷ 0 ∷ 0 ∷ 4 ∷ 0 ∷ 0 ∷ 0 ∷ []) (snd2 longest_path 33188 4) 1044
    ++ long_message (ascii "SEND" ++ 6 ∷ 4 ∷ 0 ∷ 0 ∷ longest_path ++ ascii ",33188") (send longest_path 33188) 1038

-- the limits, on headers alone: the arg by its bytes, and whether it is 18
abbrev headers : (arg : List ℕ) → Read → (ids : List (List ℕ)) → List (Fact Read)
headers arg r ids = map (λ i. row (i ++ arg) r) ids

abbrev paths : List (List ℕ)
paths = ascii "STAT" ∷ ascii "STA2" ∷ ascii "LIST" ∷ ascii "LIS2" ∷ ascii "RECV" ∷ ascii "RCV2" ∷ ascii "SND2" ∷ []

abbrev heads : List (Fact Read)
heads =
    -- 1,024, 1,025 (STAT-path-1025-header-only), 1,037, 1,038
    headers (0 ∷ 4 ∷ 0 ∷ 0 ∷ []) more (ascii "DATA" ∷ ascii "SEND" ∷ paths)
    ++ headers (1 ∷ 4 ∷ 0 ∷ 0 ∷ []) more (ascii "DATA" ∷ ascii "SEND" ∷ [])
    ++ headers (1 ∷ 4 ∷ 0 ∷ 0 ∷ []) refused paths
    ++ headers (0x0d ∷ 4 ∷ 0 ∷ 0 ∷ []) more (ascii "DATA" ∷ ascii "SEND" ∷ [])
    ++ headers (0x0d ∷ 4 ∷ 0 ∷ 0 ∷ []) refused paths
    ++ headers (0x0e ∷ 4 ∷ 0 ∷ 0 ∷ []) more (ascii "DATA" ∷ [])
    ++ headers (0x0e ∷ 4 ∷ 0 ∷ 0 ∷ []) refused (ascii "SEND" ∷ paths)
    -- 65,536, 65,537, 2^24, 2^32 - 1 (STAT-path-4GiB)
    ++ headers (0 ∷ 0 ∷ 1 ∷ 0 ∷ []) more (ascii "DATA" ∷ [])
    ++ headers (0 ∷ 0 ∷ 1 ∷ 0 ∷ []) refused (ascii "SEND" ∷ paths)
    ++ headers (1 ∷ 0 ∷ 1 ∷ 0 ∷ []) refused (ascii "DATA" ∷ ascii "SEND" ∷ paths)
    ++ headers (0 ∷ 0 ∷ 0 ∷ 1 ∷ []) refused (ascii "DATA" ∷ ascii "SEND" ∷ ascii "QUIT" ∷ paths)
    ++ headers (0xff ∷ 0xff ∷ 0xff ∷ 0xff ∷ []) refused (ascii "DATA" ∷ ascii "SEND" ∷ ascii "QUIT" ∷ paths)
    -- QUIT-with-path
    ++ headers (3 ∷ 0 ∷ 0 ∷ 0 ∷ []) refused (ascii "QUIT" ∷ [])
    -- none of the host's eleven: the panel's four; LST2-symlink, unknown-id, SEND-bad-data-id; another case
    ++ headers (0 ∷ 0 ∷ 0 ∷ 0 ∷ []) refused (ascii "OKAY" ∷ ascii "FAIL" ∷ ascii "DENT" ∷ ascii "DNT2" ∷ ascii "LST2" ∷ ascii "STAX" ∷ ascii "DATB" ∷ ascii "stat" ∷ [])

-- whole messages that are 18
abbrev turned : List (Fact Read)
turned =
    map (λ s. row s refused)
    -- a path with NUL: STAT-path-nul, and the others
    ((ascii "STAT" ++ 17 ∷ 0 ∷ 0 ∷ 0 ∷ [] ++ ascii "/t/hello.txt" ++ 0 ∷ ascii "rest")
    ∷ (ascii "LIS2" ++ 1 ∷ 0 ∷ 0 ∷ 0 ∷ 0 ∷ [])
    ∷ (ascii "RCV2" ++ 1 ∷ 0 ∷ 0 ∷ 0 ∷ 0 ∷ ascii "RCV2" ++ 0 ∷ 0 ∷ 0 ∷ 0 ∷ [])
    ∷ (ascii "SND2" ++ 1 ∷ 0 ∷ 0 ∷ 0 ∷ 0 ∷ ascii "SND2" ++ 0 ∷ 0 ∷ 0 ∷ 0 ∷ 0 ∷ 0 ∷ 0 ∷ 0 ∷ [])
    ∷ (ascii "SEND" ++ 3 ∷ 0 ∷ 0 ∷ 0 ∷ 0 ∷ ascii ",0")
    -- an inner id that differs: SND2-setup-id-ignored, and one of the other's
    ∷ (ascii "SND2" ++ 5 ∷ 0 ∷ 0 ∷ 0 ∷ [] ++ ascii "/w/s3ABCD" ++ 0xa4 ∷ 0x81 ∷ 0 ∷ 0 ∷ 0 ∷ 0 ∷ 0 ∷ 0 ∷ [])
    ∷ (ascii "RCV2" ++ 1 ∷ 0 ∷ 0 ∷ 0 ∷ [] ++ ascii "/SND2" ++ 0 ∷ 0 ∷ 0 ∷ 0 ∷ [])
    ∷ (ascii "RCV2" ++ 1 ∷ 0 ∷ 0 ∷ 0 ∷ [] ++ ascii "/RECV" ++ 0 ∷ 0 ∷ 0 ∷ 0 ∷ [])
    -- flags: RCV2-flags-5, RCV2-dry-run, SND2-flags-3, SND2-flags-8
    ∷ (ascii "RCV2" ++ 1 ∷ 0 ∷ 0 ∷ 0 ∷ [] ++ ascii "/RCV2" ++ 5 ∷ 0 ∷ 0 ∷ 0 ∷ [])
    ∷ (ascii "RCV2" ++ 1 ∷ 0 ∷ 0 ∷ 0 ∷ [] ++ ascii "/RCV2" ++ 0 ∷ 0 ∷ 0 ∷ 0x80 ∷ [])
    ∷ (ascii "SND2" ++ 4 ∷ 0 ∷ 0 ∷ 0 ∷ [] ++ ascii "/w/aSND2" ++ 0xa4 ∷ 0x81 ∷ 0 ∷ 0 ∷ 3 ∷ 0 ∷ 0 ∷ 0 ∷ [])
    ∷ (ascii "SND2" ++ 4 ∷ 0 ∷ 0 ∷ 0 ∷ [] ++ ascii "/w/aSND2" ++ 0xa4 ∷ 0x81 ∷ 0 ∷ 0 ∷ 8 ∷ 0 ∷ 0 ∷ 0 ∷ [])
    -- SEND-no-comma, SEND-mode-no-number; no mode, one too large; a digit that is not octal behind a 0, and a mode in octal that is too large
    ∷ (ascii "SEND" ++ 4 ∷ 0 ∷ 0 ∷ 0 ∷ [] ++ ascii "/w/a")
    ∷ (ascii "SEND" ++ 7 ∷ 0 ∷ 0 ∷ 0 ∷ [] ++ ascii "/w/c,rw")
    ∷ (ascii "SEND" ++ 3 ∷ 0 ∷ 0 ∷ 0 ∷ [] ++ ascii "/w,")
    ∷ (ascii "SEND" ++ 13 ∷ 0 ∷ 0 ∷ 0 ∷ [] ++ ascii "/w,4294967296")
    ∷ (ascii "SEND" ++ 5 ∷ 0 ∷ 0 ∷ 0 ∷ [] ++ ascii "/w,08")
    ∷ (ascii "SEND" ++ 15 ∷ 0 ∷ 0 ∷ 0 ∷ [] ++ ascii "/w,040000000000")
    ∷ [])

-- a SEND within its 1,037 whose path is over 1,024: more until it is whole, then 18, by its body; with the largest arg and a mode in decimal, and
-- in octal; SEND-path-1025, with a path of its own (no comma)
abbrev overlong : List (Fact Read)
overlong =
    row (ascii "SEND" ++ 7 ∷ 4 ∷ 0 ∷ 0 ∷ 97 ∷ longest_path ++ ascii ",3318") more
    ∷ row (ascii "SEND" ++ 7 ∷ 4 ∷ 0 ∷ 0 ∷ 97 ∷ longest_path ++ ascii ",33188") refused
    ∷ row (ascii "SEND" ++ 3 ∷ 4 ∷ 0 ∷ 0 ∷ 97 ∷ longest_path ++ ascii ",0") refused
    ∷ row (ascii "SEND" ++ 0x0d ∷ 4 ∷ 0 ∷ 0 ∷ replicate 1035 97 ++ ascii ",0") refused
    ∷ row (ascii "SEND" ++ 0x0d ∷ 4 ∷ 0 ∷ 0 ∷ replicate 1026 97 ++ ascii ",429496729") more
    ∷ row (ascii "SEND" ++ 0x0d ∷ 4 ∷ 0 ∷ 0 ∷ replicate 1026 97 ++ ascii ",4294967295") refused
    ∷ row (ascii "SEND" ++ 0x0d ∷ 4 ∷ 0 ∷ 0 ∷ 97 ∷ longest_path ++ ascii ",03777777777") refused
    ∷ row (ascii "SEND" ++ 1 ∷ 4 ∷ 0 ∷ 0 ∷ 97 ∷ longest_path) refused
    ∷ []

abbrev pub receiving : List (Fact Read)
receiving = messages ++ long_messages ++ heads ++ turned ++ overlong

-- ---- decimal numbers: "A u32 as digits, no leading zero; 0 is "0""

abbrev decimal_row : List ℕ → Option ℕ → Fact (Option ℕ)
decimal_row t n = record { computed = canonical t; paper = n }

abbrev pub decimals : List (Fact (Option ℕ))
decimals =
    decimal_row (ascii "0") (some 0)
    ∷ decimal_row (ascii "7") (some 7)
    ∷ decimal_row (ascii "10") (some 10)
    ∷ decimal_row (ascii "1234567890") (some 1234567890)
    ∷ decimal_row (ascii "4294967295") (some 0xffff_ffff)
    ∷ map (λ t. decimal_row t none)
    (ascii "4294967296" ∷ ascii "10000000000" ∷ [] ∷ ascii "00" ∷ ascii "01" ∷ ascii "+1" ∷ ascii "-1" ∷ ascii "1 " ∷ ascii "1/" ∷ ascii "1:" ∷ ascii "/" ∷ ascii ":"
    ∷ ascii "0x1" ∷ ascii "1a"
    ∷ [])

-- ---- modes: "The request reader should take "0100644" as 33188" (document 02, [5])

-- a SEND with an empty path and its mode in this text
abbrev sending : List ℕ → List ℕ
sending t = ascii "SEND" ++ (1 + length t) ∷ 0 ∷ 0 ∷ 0 ∷ 44 ∷ t

abbrev mode : (text : List ℕ) → ℕ → Fact Read
mode t m = row (sending t) (request (send [] m) (9 + length t))

abbrev pub modes : List (Fact Read)
modes =
    -- in octal, "as C does": 02's example; SEND-octal-mode; SEND-symlink's 41471, "mode 0120777"; 0644 of SEND-file; small ones
    mode (ascii "0100644") 33188
    ∷ mode (ascii "0755") 493
    ∷ mode (ascii "0120777") 41471
    ∷ mode (ascii "0644") 420
    ∷ mode (ascii "07") 7
    ∷ mode (ascii "010") 8
    -- zeros behind the first; eleven digits behind it, of which the largest has 32 bits
    ∷ mode (ascii "00") 0
    ∷ mode (ascii "000644") 420
    ∷ mode (ascii "070007") 28679
    ∷ mode (ascii "000000000000") 0
    ∷ mode (ascii "000000100644") 33188
    ∷ mode (ascii "037777777777") 4294967295
    -- a lone 0; texts without a leading 0 are decimal
    ∷ mode (ascii "0") 0
    ∷ mode (ascii "7") 7
    ∷ mode (ascii "8") 8
    ∷ mode (ascii "644") 644
    ∷ mode (ascii "33188") 33188
    ∷ mode (ascii "100644") 100644
    ∷ mode (ascii "4294967295") 4294967295
    ∷ map (λ t. row (sending t) refused)
    -- over 32 bits; twelve digits behind the 0
    (ascii "040000000000" ∷ ascii "077777777777" ∷ ascii "0000000000000" ∷ ascii "0000000000001" ∷ ascii "0000000100644" ∷ ascii "4294967296"
    -- a byte that is no octal digit behind a 0
    ∷ ascii "08" ∷ ascii "09" ∷ ascii "0758" ∷ ascii "0855" ∷ ascii "0x1ff" ∷ ascii "0X1FF" ∷ ascii "0o7" ∷ ascii "0b1" ∷ ascii "0/" ∷ ascii "0:" ∷ ascii "0 7" ∷ ascii "07 "
    ∷ (48 ∷ 0xb7 ∷ []) ∷ (ascii "07" ++ 0 ∷ []) ∷ (ascii "0644" ++ 10 ∷ [])
    -- no leading 0, and no decimal
    ∷ [] ∷ ascii "+7" ∷ ascii "-7" ∷ ascii "+07" ∷ ascii "-07" ∷ ascii " 7" ∷ ascii " 07" ∷ (9 ∷ ascii "7") ∷ (0 ∷ ascii "07") ∷ ascii "7 " ∷ ascii "7/" ∷ ascii "7:" ∷ (ascii "7" ++ 0 ∷ [])
    ∷ ascii "1ff" ∷ ascii "ff" ∷ ascii "x7" ∷ ascii "rw"
    ∷ [])

-- a 0, any zeros, and octal digits
abbrev octally : (zeros m : ℕ) → List ℕ → Fact (List ℕ)
octally z m t = record { computed = octal_text z m; paper = t }

abbrev pub octals : List (Fact (List ℕ))
octals =
    octally 0 33188 (ascii "0100644")
    ∷ octally 0 0 (ascii "00")
    ∷ octally 2 420 (ascii "000644")
    ∷ octally 10 0 (ascii "000000000000")
    ∷ []

-- ---- "Fifteen four-byte ids": by their bytes (MKID of file_sync_protocol.h), in the order of 000's `SyncId::ALL`; each is found by them

abbrev fifteen : List (List ℕ)
fifteen =
    (0x53 ∷ 0x54 ∷ 0x41 ∷ 0x54 ∷ []) ∷ (0x53 ∷ 0x54 ∷ 0x41 ∷ 0x32 ∷ []) ∷ (0x4c ∷ 0x49 ∷ 0x53 ∷ 0x54 ∷ []) ∷ (0x4c ∷ 0x49 ∷ 0x53 ∷ 0x32 ∷ [])
    ∷ (0x53 ∷ 0x45 ∷ 0x4e ∷ 0x44 ∷ []) ∷ (0x53 ∷ 0x4e ∷ 0x44 ∷ 0x32 ∷ []) ∷ (0x52 ∷ 0x45 ∷ 0x43 ∷ 0x56 ∷ []) ∷ (0x52 ∷ 0x43 ∷ 0x56 ∷ 0x32 ∷ [])
    ∷ (0x44 ∷ 0x41 ∷ 0x54 ∷ 0x41 ∷ []) ∷ (0x44 ∷ 0x4f ∷ 0x4e ∷ 0x45 ∷ []) ∷ (0x4f ∷ 0x4b ∷ 0x41 ∷ 0x59 ∷ []) ∷ (0x46 ∷ 0x41 ∷ 0x49 ∷ 0x4c ∷ [])
    ∷ (0x44 ∷ 0x45 ∷ 0x4e ∷ 0x54 ∷ []) ∷ (0x44 ∷ 0x4e ∷ 0x54 ∷ 0x32 ∷ []) ∷ (0x51 ∷ 0x55 ∷ 0x49 ∷ 0x54 ∷ [])
    ∷ []

abbrev pub spelt : List (Fact (List (List ℕ)))
spelt = record { computed = map letters all; paper = fifteen } ∷ []

abbrev pub found : List (Fact (List (Option Id)))
found =
    record { computed = map (named published) fifteen; paper = map some all }
    ∷ record { computed = map (named published) (ascii "LST2" ∷ ascii "STAX" ∷ ascii "stat" ∷ ascii "STA" ∷ []); paper = none ∷ none ∷ none ∷ none ∷ [] }
    ∷ []
