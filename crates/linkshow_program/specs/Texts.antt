-- The texts that the program writes about files, and about the first bytes of a capture.
use Rattle.std.specs.Prelude.{ℕ, Bool, List, [], ◌∷◌, ◌++◌, ◌||◌, codes, cond, bytes_eq}
use Rattle.std.specs.List.{flat_map}
use Rattle.std.specs.declared.io.ErrorKind.{ErrorKind}
use Rattle.linkshow_program.specs.Arguments.{UsageFault}
use Rattle.std.specs.declared.io.ErrorKind.TheVariants.{NotFound, PermissionDenied, IsADirectory, NotADirectory}
use Rattle.std.specs.declared.io.ErrorKind.TheVariants.{FilesystemLoop, InvalidFilename, InvalidInput, OutOfMemory}

-- The reason why a file can't be opened.
abbrev pub cause : ErrorKind → List ℕ
cause NotFound = codes "no such file"
cause PermissionDenied = codes "permission denied"
cause IsADirectory = codes "it is a directory"
cause NotADirectory = codes "a part of the path is not a directory"
cause FilesystemLoop = codes "too many symbolic links"
cause InvalidFilename = codes "not a valid file name"
cause InvalidInput = codes "not a valid file name"
cause OutOfMemory = codes "no memory"
cause kind = codes "it can't be opened"

-- Whether bytes begin with one of the four magic numbers of pcap: for microseconds and nanoseconds, in both byte
-- orders.
abbrev pub is_pcap : List ℕ → Bool
is_pcap first = bytes_eq first (161 ∷ 178 ∷ 195 ∷ 212 ∷ []) ||
    (bytes_eq first (212 ∷ 195 ∷ 178 ∷ 161 ∷ []) ||
    (bytes_eq first (161 ∷ 178 ∷ 60 ∷ 77 ∷ []) || bytes_eq first (77 ∷ 60 ∷ 178 ∷ 161 ∷ [])))

-- Whether bytes begin with the magic number of pcapng.
abbrev pub is_pcapng : List ℕ → Bool
is_pcapng first = bytes_eq first (10 ∷ 13 ∷ 13 ∷ 10 ∷ [])

-- Whether bytes are the first four of a file of the program's own lines: of the name of a message's type, of `type` for
-- one without a name, or of the head of a golden file.
abbrev pub is_lines : List ℕ → Bool
is_lines first = bytes_eq first (codes "RTM_") ||
    (bytes_eq first (codes "NLMS") || (bytes_eq first (codes "type") || bytes_eq first (codes "# li")))

-- Whether bytes are the first four of a line of the program's JSON.
abbrev pub is_json : List ℕ → Bool
is_json first = bytes_eq first (codes "{\"ty")

-- Whether bytes are the first four of a compressed file: of gzip, without and with a name; of xz; of Zstandard.
abbrev pub is_compressed : List ℕ → Bool
is_compressed first = bytes_eq first (31 ∷ 139 ∷ 8 ∷ 0 ∷ []) ||
    (bytes_eq first (31 ∷ 139 ∷ 8 ∷ 8 ∷ []) ||
    (bytes_eq first (253 ∷ 55 ∷ 122 ∷ 88 ∷ []) || bytes_eq first (40 ∷ 181 ∷ 47 ∷ 253 ∷ [])))

-- Whether bytes are the first four of a program in the format ELF.
abbrev pub is_program : List ℕ → Bool
is_program first = bytes_eq first (127 ∷ 69 ∷ 76 ∷ 70 ∷ [])

-- The advice for a capture with a fault that begins with these bytes.
abbrev pub advice : List ℕ → List ℕ
advice first =
    cond (is_pcap first) (codes "linkshow: this is a pcap file: linkrec pcap FILE makes a capture of it" ++ 10 ∷ [])
    (cond (is_pcapng first) (codes "linkshow: this is a pcapng file: linkrec pcap FILE makes a capture of it" ++
    10 ∷ [])
    (cond (is_lines first) (codes "linkshow: these are lines of linkshow already: linkdiff and linkjson read them" ++
    10 ∷ [])
    (cond (is_json first) (codes "linkshow: this is JSON of linkshow already" ++ 10 ∷ [])
    (cond (is_compressed first) (codes "linkshow: this is a compressed file: decompress it first" ++ 10 ∷ [])
    (cond (is_program first) (codes "linkshow: this is a program: linkrec run records what it asks for" ++ 10 ∷ []) [])))))

-- The usage line.
abbrev pub usage_line : List ℕ
usage_line =
    codes "usage: linkshow [--only TYPE,..] [--link WORD] [--without NAME,..] [--without-numbers] " ++
    (codes "[--offsets] [--keep-going] [--json] [--kernels] [--limit N] [FILE]; linkshow --help says more" ++ 10 ∷ [])

-- The report of a usage error.
abbrev pub usage_text : UsageFault → List ℕ
usage_text UsageFault.Usage = usage_line
usage_text (UsageFault.InvalidLimit word) =
    codes "linkshow: --limit: not a number from 16 to 4294967295: " ++ (word ++ 10 ∷ [])
usage_text (UsageFault.UnknownType word) =
    codes "linkshow: --only: no type of messages is called " ++ (word ++ 10 ∷ [])
usage_text (UsageFault.UnknownName word) =
    codes "linkshow: --without: no attribute or group is called " ++ (word ++ 10 ∷ [])

-- The version of the program, and the format version of its lines.
abbrev pub version_text : List ℕ
version_text = codes "linkshow 0.1.0, lines 4\n"

-- The help.
unfoldable pub help_text : List ℕ
help_text =
    flat_map (λ line. line ++ 10 ∷ []) (
    codes "usage: linkshow [--only TYPE,..] [--link WORD] [--without NAME,..]" ∷
    codes "                [--without-numbers] [--offsets] [--keep-going] [--json]" ∷
    codes "                [--kernels] [--limit N] [FILE]" ∷
    codes "       linkshow --help" ∷
    codes "       linkshow --version" ∷
    codes "" ∷
    codes "Shows a capture of netlink messages as lines: that in FILE, or on standard" ∷
    codes "input if there is no FILE or it is -. A capture is the bytes of its messages," ∷
    codes "one after the other, each at an offset that is a multiple of 4. The lines are" ∷
    codes "those of its normal text: captures that mean the same have the same lines." ∷
    codes "" ∷
    codes "  --only TYPE,..     show only messages of these types, by name or number:" ∷
    codes "                     newlink,setlink,77" ∷
    codes "  --link WORD        show only messages about this link, by its index, its" ∷
    codes "                     name or an alternative name" ∷
    codes "  --without NAME,..  leave out these attributes, by name, and these groups:" ∷
    codes "                     numbers, as --without-numbers; counters, as statistics" ∷
    codes "                     and timers; indexes, of links and of namespaces;" ∷
    codes "                     padding, which is shown if it isn't zero or is cut;" ∷
    codes "                     tables, of rates and sizes in traffic control" ∷
    codes "  --without-numbers  leave out sequence numbers and netlink port IDs, which" ∷
    codes "                     change from run to run" ∷
    codes "  --offsets          show each message's offset in bytes" ∷
    codes "  --keep-going       show messages with an invalid body too, in hex and with" ∷
    codes "                     the reason, and the messages after them" ∷
    codes "  --json             write an object of JSON for each message, a line each" ∷
    codes "  --limit N          the greatest length of a message in bytes, from 16 to" ∷
    codes "                     4294967295; without it, 1048576" ∷
    codes "  --kernels          first note on standard error each encoding that kernels" ∷
    codes "                     treat differently from its normal text" ∷
    codes "  -h, --help         this text" ∷
    codes "  --version          the version of linkshow, and the format version of its" ∷
    codes "                     lines" ∷
    codes "" ∷
    codes "A value follows its option, or comes after =, as --only=newlink. After -- no" ∷
    codes "option follows, but a FILE, whose name may begin with -." ∷
    codes "" ∷
    codes "Status 0: the capture is legal, and its lines are written. 2: the capture has" ∷
    codes "a fault, which standard error names with its offset in bytes, or a file can't" ∷
    codes "be opened, read or written, or memory ran out; the lines before it are" ∷
    codes "written. 3: a usage error." ∷
    codes "" ∷
    codes "Example, the links of this network namespace:" ∷
    codes "" ∷
    codes "  linkrec dump > links.bin" ∷
    codes "  linkshow links.bin" ∷
    codes "  linkshow --json links.bin | jq .attributes" ∷
    [])
